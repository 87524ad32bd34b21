-- Places of a region of equal buffers. Assumes nothing.
use Rattle.std.proofs.Common.{ℕ, suc, ◌+◌, ◌*◌, ◌<◌, ◌≤◌, mul-le-mul_right, suc-mul, arith}

-- a buffer ends within the region
pub in_region : (size buffers b x : ℕ) → b < buffers → x ≤ size → b * size + x ≤ buffers * size
in_region size buffers b x known le =
    let m : suc b * size ≤ buffers * size = mul-le-mul_right size known in
    let e = suc-mul b size in
    omega arith

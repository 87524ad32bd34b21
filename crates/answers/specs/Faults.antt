-- The number of each fault, the place that some carry, and what a call that fills a lent part leaves. Assumes nothing.
use Rattle.std.specs.Prelude.{◌≡◌, ℕ, List, length, Some, None, Ok, Err, Option, Result, ◌≢◌}
use Rattle.answers.specs.declared.Fault.{Fault}
use Rattle.answers.specs.declared.Fault.TheVariants.{FigureOutOfBounds, RegionLength, NotFresh, NotOpen, PusherRange, PayloadLength, QueueFull, NoFreeBuffer, OtherSourceInHand, Unfinished, IdentifierNotAbove, TableFull, NoSuchIndex, NoValue, Torn, BehindClosing, BadHeader, NoUnits, FetchFailed, Mismatched}

-- the number of a fault
abbrev pub number_of : Fault → ℕ
number_of FigureOutOfBounds = 1
number_of RegionLength = 2
number_of NotFresh = 3
number_of NotOpen = 4
number_of PusherRange = 5
number_of PayloadLength = 6
number_of QueueFull = 7
number_of NoFreeBuffer = 8
number_of OtherSourceInHand = 9
number_of Unfinished = 10
number_of IdentifierNotAbove = 11
number_of TableFull = 12
number_of NoSuchIndex = 13
number_of NoValue = 14
number_of (Torn place) = 15
number_of (BehindClosing place) = 16
number_of (BadHeader place) = 17
number_of NoUnits = 18
number_of FetchFailed = 19
number_of Mismatched = 20

-- the place that a fault carries
abbrev pub place_of : Fault → Option ℕ
place_of FigureOutOfBounds = None
place_of RegionLength = None
place_of NotFresh = None
place_of NotOpen = None
place_of PusherRange = None
place_of PayloadLength = None
place_of QueueFull = None
place_of NoFreeBuffer = None
place_of OtherSourceInHand = None
place_of Unfinished = None
place_of IdentifierNotAbove = None
place_of TableFull = None
place_of NoSuchIndex = None
place_of NoValue = None
place_of (Torn place) = Some place
place_of (BehindClosing place) = Some place
place_of (BadHeader place) = Some place
place_of NoUnits = None
place_of FetchFailed = None
place_of Mismatched = None

-- a part that held `before` and holds `after`: the octets os if it has their length, else refused by 20 and left
abbrev pub Fills : {V : Type 0} → List ℕ → List ℕ → Result V Fault → List ℕ → Type 0
Fills os before (Ok v) after = (length before ≡ length os) × (after ≡ os)
Fills os before (Err e) after = (length before ≢ length os) × (number_of e ≡ 20) × (after ≡ before)

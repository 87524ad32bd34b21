-- The words that name verbs, kinds of elements, and the forms in which they are spelled. Assumes nothing.
use Rattle.std.specs.Prelude.{ℕ, cond, List, Some, None, codes, Option}
use Rattle.std.specs.Str.{bytes_eq}
use Rattle.script.specs.declared.verb.Verb.{Verb}
use Rattle.script.specs.declared.verb.Verb.TheVariants as verb
use Rattle.script.specs.declared.element.Form.{Form}
use Rattle.script.specs.declared.element.Form.TheVariants as form
use Rattle.script.specs.declared.element.Kind.{Kind}
use Rattle.script.specs.declared.element.Kind.TheVariants as kind

abbrev pub verb_name : Verb → List ℕ
verb_name verb.Message = codes "message"
verb_name verb.Read = codes "read"
verb_name verb.Element = codes "element"

abbrev pub verb_of : List ℕ → Option Verb
verb_of w = cond (bytes_eq w (codes "message")) (Some verb.Message) (cond (bytes_eq w (codes "read")) (Some verb.Read) (cond (bytes_eq w (codes "element")) (Some verb.Element) None))

abbrev pub kind_of : List ℕ → Option Kind
kind_of w = cond (bytes_eq w (codes "ray")) (Some kind.Ray) (cond (bytes_eq w (codes "tweak")) (Some kind.Tweak) (cond (bytes_eq w (codes "block")) (Some kind.Block) None))

abbrev pub form_of : List ℕ → Option Form
form_of w =
    cond (bytes_eq w (codes "ray")) (Some form.Ray) (cond (bytes_eq w (codes "thickness")) (Some form.Thickness) (cond (bytes_eq w (codes "tilt")) (Some form.Tilt) (cond (bytes_eq w (codes "index")) (Some form.Index) (cond (bytes_eq w (codes "block")) (Some form.Block) None))))

-- The pretty text of a value that fits memory.
use Rattle.std.proofs.Common.{◌≡◌, ℕ, ◌^◌, ◌*◌, ◌≤◌, ◌<◌, List, length, sym, ◌∙◌, subst, arith}
use Rattle.serde_json.specs.Data.{Data, depth}
use Rattle.zarrs_form.specs.declared.layout.Layout.TheVariants.{Pretty}
use Rattle.zarrs_form.specs.Layouts.{text_in, pretty_text}
use Rattle.zarrs_form.proofs.PrettyLaid.{pretty_text_is}
use Rattle.zarrs_form.proofs.PrettyLong.{text_longer}

-- a value's text at no depth that fits memory is its pretty text
pub piece_pretty : (d : Data) (text : List ℕ) → length text < 2 ^ 64 → text ≡ text_in (Pretty 0) d → text ≡ pretty_text d
piece_pretty d text fits is =
    let long : 2 * depth d ≤ length text = subst (λ t. 2 * depth d ≤ length t) (sym is) (text_longer 0 d) in
    is ∙ sym (pretty_text_is d (omega arith))

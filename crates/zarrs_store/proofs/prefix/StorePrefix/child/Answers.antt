use Rattle.std.proofs.Common.{◌≡◌, ◌++◌, ◌∷◌, [], sym, ◌∙◌, ap, string_bytes}
use Rattle.zarrs_store.specs.Segments.{prefix_text, segments_of, IsPrefix}
use Rattle.zarrs_store.proofs.Cuts.{segments_of-prefix_text, segments_test}
use Rattle.zarrs_store.proofs.BelowLemmas.{prefix_text-child, IsPrefix-child}
use Rattle.zarrs_store.proofs.prefix.StorePrefix.child.Goals as goal

-- the text that was put together
text_is : (c : goal.In_ok-push_str-2) → string_bytes c.push_str-2.new.self ≡ prefix_text (c.args.self.now ++ c.args.name.now ∷ [])
text_is c =
    c.in_ok-push_str-2.ensures.bytes
    ∙ ap (λ x. x ++ 47 ∷ []) (c.in_ok-push_str.ensures.bytes ∙ ap (λ x. x ++ c.args.name.now) (c.in_ok-text.ensures.ok ∙ c.as_str.ensures.text))
    ∙ sym (prefix_text-child c.args.self.now c.args.name.now)

-- the segments that it is of
valid : (c : goal.In_ok-push_str-2) → IsPrefix (c.args.self.now ++ c.args.name.now ∷ [])
valid c = IsPrefix-child c.args.self.now c.args.name.now c.as_str.ensures.valid c.requires

pub invariant_of-result : goal.invariant_of-result
invariant_of-result c = record { prefix = c.args.self.now ++ c.args.name.now ∷ []; valid = valid c; is = text_is c }

pub returns : goal.returns
returns c = ap segments_of (text_is c) ∙ segments_of-prefix_text _ (segments_test _ (valid c))

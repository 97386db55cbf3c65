use Rattle.std.proofs.Common.{◌≡◌, ℕ, List, ◌++◌, ◌∷◌, [], sym, ◌∙◌, ap}
use Rattle.zarrs_store.specs.Segments.{Segments, prefix_text, segments_of, key_text}
use Rattle.zarrs_store.proofs.Cuts.{key_text-child, key_from_child, segments_of-key_text}
use Rattle.zarrs_store.proofs.prefix.StorePrefix.key_in.Goals as goal

-- the text that was put together
joined : (p : Segments) (s front none first text : List ℕ) → front ≡ prefix_text p → none ≡ [] → first ≡ none ++ front → text ≡ first ++ s → text ≡ key_text (p ++ s ∷ [])
joined p s front none first text is clear one two = two ∙ ap (λ x. x ++ s) (one ∙ ap (λ x. x ++ front) clear ∙ is) ∙ sym (key_text-child p s)

pub new_unchecked-requires : goal.new_unchecked-requires
new_unchecked-requires c = record {
  key = c.args.self.now ++ c.args.segment.now ∷ [];
  valid = key_from_child c.args.self.now c.args.segment.now c.as_str.ensures.valid c.requires;
  is = joined c.args.self.now c.args.segment.now _ _ _ _ c.as_str.ensures.text c.clear.ensures.bytes c.in_ok-push_str.ensures.bytes c.in_ok-push_str-2.ensures.bytes;
}

pub returns : goal.returns
returns c =
    c.new_unchecked.ensures.segments
    ∙ ap segments_of (joined c.args.self.now c.args.segment.now _ _ _ _ c.as_str.ensures.text c.clear.ensures.bytes c.in_ok-push_str.ensures.bytes c.in_ok-push_str-2.ensures.bytes)
    ∙ segments_of-key_text _ (key_from_child c.args.self.now c.args.segment.now c.as_str.ensures.valid c.requires)

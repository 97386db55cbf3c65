use Rattle.std.proofs.Common.{◌≡◌, ◌∷◌, ◌+◌, ◌||◌, true, false, String, Global, drop, map, string_bytes, sym, ap, ◌∙◌, arith}
use Rattle.std.proofs.lemmas.List.{drop_more, drop_all}
use Rattle.std.specs.List.{list_any}
use Rattle.std.specs.Map.{keys_of}
use Rattle.zarrs_form.specs.Documents.{is_own}
use Rattle.zarrs_form.proofs.sorted.has_own_entry.Goals as goal

pub loop-entry-preserved : goal.loop-entry-preserved
loop-entry-preserved g c =
    let l = c.loop-entry in
    let names = map (λ n. n.now) c.args.own_names.now in
    let own = λ (k : String Global). is_own names (string_bytes k) in
    let xs = c.args.entries.now in
    let x = c.entry-item.result in
    let left = drop (l.entry-index + 1) xs in
    let here : drop l.entry-index xs ≡ x ∷ left = drop_more xs l.entry-index x (omega arith) ∙ ap (λ y. y ∷ left) (sym c.entry-item.is) in
    let other : own x.0 ≡ false = ap (is_own names) (sym c.as_str.ensures.value) ∙ sym c.is_one_of.ensures ∙ c.if-is_one_of.false in
    ap (λ b. b || list_any own (keys_of left)) (sym other) ∙ ap (λ es. list_any own (keys_of es)) (sym here) ∙ l.invariant

pub returns-then-is_one_of : goal.returns-then-is_one_of
returns-then-is_one_of g c =
    let l = c.loop-entry in
    let names = map (λ n. n.now) c.args.own_names.now in
    let own = λ (k : String Global). is_own names (string_bytes k) in
    let xs = c.args.entries.now in
    let x = c.entry-item.result in
    let left = drop (l.entry-index + 1) xs in
    let here : drop l.entry-index xs ≡ x ∷ left = drop_more xs l.entry-index x (omega arith) ∙ ap (λ y. y ∷ left) (sym c.entry-item.is) in
    let found : own x.0 ≡ true = ap (is_own names) (sym c.as_str.ensures.value) ∙ sym c.is_one_of.ensures ∙ c.if-is_one_of.true in
    ap (λ b. b || list_any own (keys_of left)) (sym found) ∙ ap (λ es. list_any own (keys_of es)) (sym here) ∙ l.invariant

pub returns : goal.returns
returns g c =
    let l = c.loop-entry in
    let own = λ (k : String Global). is_own (map (λ n. n.now) c.args.own_names.now) (string_bytes k) in
    ap (λ es. list_any own (keys_of es)) (sym (drop_all l.entry-index c.args.entries.now (omega arith))) ∙ l.invariant

-- `set_consolidated_metadata` hands on what `set_lent` says of its argument: a walk of the two calls.
use Rattle.std.proofs.Common.{◌≡◌, List, [], ◌∷◌, refl, sym, ap, ◌∙◌, subst, MutBor}
use Rattle.std.specs.Prelude.{Option, Result, Ok, Err, IfOk, IfErr}
use Rattle.std.proofs.raw_atomic.Walks.{proved_at, leaves}
use Rattle.std.specs.contracts.alloc.Global as global
use Rattle.std.specs.contracts.option.Option as option
use Rattle.std.specs.contracts.result.Result.{the_row as result_row}
use Rattle.std.proofs.alloc.Global.TheLaws as global_laws
use Rattle.std.proofs.option.Option.TheLaws as option_laws
use Rattle.std.proofs.result.Result.TheLaws.{the_row_laws as result_laws}
use seplogic.Ra.Ura.{Ura}
use lib.Dec.{T}
use base.Logic.{ent, emp, via, id⊢}
use base.Fml.{Lft, Share, ftrue, flft}
use mir.Syntax.{Ty, named}
use mir.Val.{Val, WT, has_ty, vptr}
use prog.Wp.{WpFn}
use types.Logic.{Logic, sem}
use types.Kit.{‵, raw, ◌⊛◌, some, later, ◌$◌, ◌∵◌, !, qed, by, move, drop, use0, use1, use2, split, join, fjoin, pick, await}
use types.Run.{addr, of_opd, stop, no_more, and_then, returns, enter}
use types.ByLocal.{alloc_all, pass_all, free_all, look_at, get, through, sets, lands_as}
use contract.Lifetimes.{Lfts}
use contract.Monad.{top, fact, fact_i}
use contract.Running.{tables}
use denote.Exit.{yes, no, Last, left, rest}
use denote.RattleType.{RattleType}
use denote.Memory.{lone}
use denote.Ref.{MutRef}
use denote.Laws.{Is, Typed, shows}
use denote.Param.Mute.{Mute, Mute-flat, enum-Mute}
use denote.Param.Laws.{Laws, of_field, row_shared}
use denote.Param.Shared.{mut_ref_shared}
use denote.Struct.Field.{mut_ref_field}
use denote.Struct.Laws.{mut_ref_laws}
use denote.Signature.{plain, mut_ref_to, named_lft}
use denote.Steps.{nothing, peeks, heard}
use denote.Triple.Call.{calls_at}
use denote.Triple.Clauses.{lasts, Lasts}
use denote.Triple.Spec.{triple_of}
use denote.Triple.Table.{framed}
use denote.Triple.Walked.{Stays, stay_dropped, walk_of, Goes, Goes-dropped, Goes-spent_ref}
use Rattle.zarrs_block.specs.Block.{Block}
use Rattle.zarrs_block.specs.Policy.{as_block}
use Rattle.zarrs_meaning.specs.declared.node_create_error.NodeCreateError.{NodeCreateError}
use Rattle.zarrs_block.specs.contracts.consolidated.ConsolidatedMetadata.{the_row as given_row}
use Rattle.zarrs_meaning.specs.contracts.node_create_error.NodeCreateError.{the_row as error_row}
use Rattle.zarrs_block.proofs.consolidated.ConsolidatedMetadata.TheLaws.{the_row_laws as given_laws}
use Rattle.zarrs_meaning.proofs.node_create_error.NodeCreateError.TheLaws.{the_row_laws as error_laws}
use Rattle.zarrs_group.specs.Groups.{GroupState}
use Rattle.zarrs_group.specs.BlocksOfGroups.{held_by_in, with_block, Fits, RefusesBlock, CanHoldIn}
use Rattle.zarrs_group.specs.Lending.{Rests}
use Rattle.zarrs_group.specs.StepsOfLending.{RestsLent, group_lent}
use Rattle.zarrs_group.specs.declared.consolidated.LentGroup.{LentGroup}
use Rattle.zarrs_group.specs.contracts.group.Group.{the_row as R}
use Rattle.zarrs_group.specs.contracts.consolidated.LentGroup.{the_row as lent_row}
use Rattle.zarrs_group.proofs.group.Group.TheLaws.{the_row_laws as group_laws}
use Rattle.zarrs_group.proofs.consolidated.LentGroup.TheLaws.{the_row_laws as lent_laws}
use Rattle.zarrs_fault.specs.declared.numbers.Numbers.{Numbers}
use Rattle.zarrs_group.proofs.BlockFields.{held_once_set}
use Rattle.zarrs_group.specs.contracts.group.Group.set_lent as g
use Rattle.zarrs_group.proofs.group.Group.set_lent.Met as g-met
use Rattle.zarrs_group.specs.contracts.consolidated.into_group as b
use Rattle.zarrs_group.proofs.consolidated.into_group.Met as b-met
use Rattle.zarrs_group.specs.contracts.group.Group.set_consolidated_metadata as f
use Rattle.zarrs_group.proofs.group.Group.set_consolidated_metadata.Statement.{statement}
use Rattle.zarrs_group.proofs.group.Group.set_consolidated_metadata.Code as code

abbrev Lent : Type 0
Lent = Result LentGroup NodeCreateError

abbrev Answer : Type 0
Answer = Result (MutBor GroupState) NodeCreateError

abbrev Given : RattleType
Given = option.the_row given_row

Given_laws : Laws Given
Given_laws = option_laws.the_row_laws given_row given_laws

-- nothing is said of the block once the call is over
mute : Mute (Given.exit yes)
mute = enum-Mute (option.the_type given_row) yes (tt, ((Mute-flat (λ x w. refl) (λ x. tt), tt), tt))

-- of no parameter anything is still owned at the return
abbrev stayed : Stays f.ended.signature.params f.ended.kept
stayed = (stay_dropped (mut_ref_to (0 ∷ []) tt (plain (λ _. R))) no, (stay_dropped (plain (λ _. global.the_row)) yes, (stay_dropped (plain (λ _. Given)) yes, tt)))

-- the one value of a type with one
one : (τ : Ty) (vs : List Val) → Typed (τ ∷ []) vs → (w : Val) × (vs ≡ w ∷ []) × (T (has_ty τ w) × WT w)
one τ [] t = absurd t
one τ (w ∷ []) t = (w, refl, t.0)
one τ (w ∷ u ∷ us) t = absurd t.1

-- what is said of the block at the return is had for nothing
goes : {M : Type 1} {𝓤 : Ura M} (𝓛 : Logic 𝓤) → Goes 𝓛 1 (plain (λ _. Given)) yes (stay_dropped (plain (λ _. Given)) yes)
goes {M = M} {𝓤 = 𝓤} 𝓛 κs x w vs ok = via 𝓤 (emp 𝓤) (top 𝓤 _) (via 𝓤 (sem 𝓛 (left (Given.exit yes) x w))
    (subst (λ (u : Last (Given.exit yes) x). ent 𝓤 (emp 𝓤) (sem 𝓛 (left (Given.exit yes) x u))) (sym (mute.once x w)) (mute.quiet M 𝓤 𝓛 x)) (𝓛.laws.⇛_intro _))

-- what the group ends as is said by the same name, in the struct and out of it
turned : {M : Type 1} {𝓤 : Ura M} (𝓛 : Logic 𝓤) (s : MutBor GroupState) (lent : Lent) (r : Answer) → r ≡ group_lent lent
    → ent 𝓤 (sem 𝓛 (RestsLent {E = NodeCreateError} s lent)) (sem 𝓛 (Rests {E = NodeCreateError} s r))
turned {𝓤 = 𝓤} 𝓛 s (Ok h) r e = subst (λ (x : Answer). ent 𝓤 (sem 𝓛 (RestsLent {E = NodeCreateError} s (Ok h))) (sem 𝓛 (Rests {E = NodeCreateError} s x))) (sym e) (id⊢ 𝓤 _)
turned {𝓤 = 𝓤} 𝓛 s (Err x) r e = subst (λ (y : Answer). ent 𝓤 (sem 𝓛 (RestsLent {E = NodeCreateError} s (Err x))) (sem 𝓛 (Rests {E = NodeCreateError} s y))) (sym e) (id⊢ 𝓤 _)

-- a fact of the group in the struct is one of the group out of it
if_ok : (P : MutBor GroupState → Type 0) (lent : Lent) (r : Answer) → r ≡ group_lent lent → IfOk lent (λ h. P h.group) → IfOk r P
if_ok P (Ok h) r e p = subst (λ (x : Answer). IfOk x P) (sym e) p
if_ok P (Err x) r e p = subst (λ (y : Answer). IfOk y P) (sym e) p

-- a fact of the refusal is one of the same refusal
if_err : (P : NodeCreateError → Type 0) (lent : Lent) (r : Answer) → r ≡ group_lent lent → IfErr lent P → IfErr r P
if_err P (Ok h) r e p = subst (λ (x : Answer). IfErr x P) (sym e) p
if_err P (Err x) r e p = subst (λ (y : Answer). IfErr y P) (sym e) p

-- a group with a block set that it can hold in some numbers holds it in them
holds : (old : GroupState) (block : Option Block) (r : Answer) → IfOk r (λ group. group.now ≡ with_block old block) → IfOk r (λ group. (numbers : Numbers) → CanHoldIn numbers old block → held_by_in numbers group.now ≡ block)
holds old block (Ok group) set = λ numbers can. ap (held_by_in numbers) set ∙ held_once_set numbers old block can
holds old block (Err e) set = tt

-- the laws of a `&mut` to a group
ref_laws : (κs : Lfts 1) → Laws (MutRef (named 0) κs.0 R)
ref_laws κs = let lft = named_lft 1 0 tt κs in of_field (mut_ref_field lft R tt) (mut_ref_laws lft R tt) refl (mut_ref_shared lft R tt (row_shared R group_laws))

pub set_consolidated_metadata_spec : {M : Type 1} → statement M
set_consolidated_metadata_spec 𝓤 𝓛 𝓜 𝓡 wired =
    let c = f.clauses 𝓛 𝓜.mem 𝓡.returns in let W = walk_of 𝓛 f.ended stayed c in let 𝓣 = tables 𝓤 𝓛.H 𝓜 𝓡 𝓡.env in
    proved_at 𝓛 f.ended stayed c 𝓜 𝓡 (Goes-spent_ref 𝓛 1 (0 ∷ []) tt (plain (λ _. R)), (Goes-dropped 𝓛 1 (plain (λ _. global.the_row)) yes (λ κs x w. refl), (goes 𝓛, tt)))
    f.Key.name code.function (code.unfolded 𝓤 𝓛.H 𝓜 𝓡 wired)
    (λ y₀ are. let κs = y₀.0.0 in let qs = y₀.0.1 in let a = y₀.0.3 in
    let κ : Lft = κs.0 in let q : Share = qs.0 in let s : MutBor GroupState = a.0 in let given = a.1.1.0 in
    let alloc-is = one (lone global.the_row.mir) y₀.0.4.1.0 ((global_laws.the_row_laws.lawful 𝓛).typed a.1.0 y₀.0.4.1.0 are.1.0) in
    let given-is = one (lone Given.mir) y₀.0.4.1.1.0 ((Given_laws.lawful 𝓛).typed given y₀.0.4.1.1.0 are.1.1.0) in
    let HR : RattleType = result_row (lent_row (named_lft 1 0 tt κs)) error_row in
    let OR : RattleType = result_row (MutRef (named 0) κ R) error_row in
    let Same : MutBor GroupState → Type 0 = λ group. group.ghost_name ≡ s.ghost_name in
    let Set : MutBor GroupState → Type 0 = λ group. group.now ≡ with_block s.now (as_block given) in
    let Held : MutBor GroupState → Type 0 = λ group. (numbers : Numbers) → CanHoldIn numbers s.now (as_block given) → held_by_in numbers group.now ≡ as_block given in
    let Fitting : MutBor GroupState → Type 0 = λ _. Fits s.now.metadata (as_block given) in
    let Refused : NodeCreateError → Type 0 = RefusesBlock s.now.metadata (as_block given) in
    let At : List Val × (List Val × (List Val × Unit {0})) → W.Ghost = λ vss. ((κs, qs, y₀.0.2, a, vss), tt) in
    let vss₁ : List Val × (List Val × (List Val × Unit {0})) = (vptr s.ref_ptr.0 s.ref_ptr.1 ∷ [], (alloc-is.0 ∷ [], (given-is.0 ∷ [], tt))) in
    let y : W.Ghost = At vss₁ in
    let G = triple_of 𝓛 g.signature (g.spec 𝓛 𝓜.mem 𝓡.returns) in
    let B = triple_of 𝓛 b.signature (b.spec 𝓛 𝓜.mem 𝓡.returns) in
    let z : G.Ghost = ((κs, qs, y₀.0.2, a, vss₁), tt) in
    subst (λ (vss : List Val × (List Val × (List Val × Unit {0}))). ent 𝓤 (W.pre (At vss)) (WpFn 𝓤 𝓛.H 𝓣.C 𝓣.Λ code.function (W.args (At vss)) (W.post (At vss))))
    (λ i. (sym are.0.0 i, (sym alloc-is.1 i, (sym given-is.1 i, tt)))) (
    qed 𝓛 (raw (G.pre z) ∷ []) ∵ enter ! _ _ _ _ _ $
    alloc_all ! (λ l. pass_all ! refl ((tt, tt), (alloc-is.2, (given-is.2, tt))) $
    sets ! (addr ! (through ! refl (stop !))) refl (tt, tt) $ sets ! (of_opd ! (get ! refl)) refl given-is.2 $
    calls_at ! (framed 𝓤 𝓛.H 𝓜 𝓣) G (g-met.met 𝓤 𝓛 𝓜 𝓡 (code.calls-zarrs_group::group::Group::set_lent 𝓡.env wired)) z
    (and_then ! (get ! refl) (and_then ! (get ! refl) (and_then ! (get ! refl) (no_more !)))) (λ v.
    use1 𝓛 (later (some (λ (lent : Lent). ((‵ (flft κ q) ⊛ ‵ ftrue) ⊛ ‵ (HR.own_val lent (v ∷ []))) ⊛ some (λ (ws : Lasts g.ended κs a). ‵ (lasts g.ended κs a ws)
    ⊛ ‵ (RestsLent s lent) ⊛ raw (fact 𝓤 (IfOk lent (λ h. Same h.group))) ⊛ raw (fact 𝓤 (IfOk lent (λ h. Set h.group)))
    ⊛ raw (fact 𝓤 (IfOk lent (λ h. Fitting h.group))) ⊛ raw (fact 𝓤 (IfErr lent Refused)))))) (id⊢ 𝓤 _) $
    await ! tt $ pick ! (λ lent. split ! $ split ! $ move ! (2 ∷ []) $ pick ! (λ ws. split ! $ drop ! $ split ! $
    -- [what it ends as; the facts; the token; the result]
    move ! (1 ∷ []) $ split ! $ heard ! _ (λ same. split ! $ heard ! _ (λ set. split ! $ heard ! _ (λ fitting. heard ! _ (λ refused. move ! (2 ∷ []) $
    peeks ! HR (Is HR) (shows 𝓛 HR) lent (v ∷ []) (λ is. lands_as ! refl refl (((result_laws (lent_row (named_lft 1 0 tt κs)) error_row
    (lent_laws (named_lft 1 0 tt κs)) error_laws).lawful 𝓛).typed lent _ is).0 $
    -- [the result; what it ends as; the token]
    let u : B.Ghost = (((κ, tt), (q, tt), tt, (lent, tt), (v ∷ [], tt)), tt) in
    nothing ! $ move ! (1 ∷ 0 ∷ []) $ join ! $ move ! (2 ∷ 0 ∷ []) $ join ! $ nothing ! $ move ! (1 ∷ 0 ∷ []) $ use2 𝓛 (raw (B.pre u)) (id⊢ 𝓤 _) $
    calls_at ! (framed 𝓤 𝓛.H 𝓜 𝓣) B (b-met.met 𝓤 𝓛 𝓜 𝓡 (code.calls-zarrs_group::consolidated::into_group 𝓡.env wired)) u (and_then ! (get ! refl) (no_more !)) (λ w.
    use1 𝓛 (later (some (λ (r : Answer). ((‵ (flft κ q) ⊛ ‵ ftrue) ⊛ ‵ (OR.own_val r (w ∷ []))) ⊛ some (λ (ws' : Lasts b.ended (κ, tt) (lent, tt)).
    ‵ (lasts b.ended (κ, tt) (lent, tt) ws') ⊛ raw (fact 𝓤 (r ≡ group_lent lent)))))) (id⊢ 𝓤 _) $
    await ! tt $ pick ! (λ r. split ! $ split ! $ move ! (2 ∷ []) $ pick ! (λ ws'. split ! $ drop ! $ heard ! _ (λ e.
    -- [the token; the result; what it ends as]
    move ! (1 ∷ []) $ peeks ! OR (Is OR) (shows 𝓛 OR) r (w ∷ []) (λ is'. lands_as ! refl refl (((result_laws (MutRef (named 0) κ R) error_row
    (ref_laws κs) error_laws).lawful 𝓛).typed r _ is').0 $
    returns ! (look_at ! 0 refl) $ free_all ! refl $
    move ! (2 ∷ []) $ use1 𝓛 (‵ (Rests s r)) (turned 𝓛 s lent r e) $
    -- [what it ends as; the result; the token]
    let set' : IfOk r Set = if_ok Set lent r e set in
    use0 𝓛 (raw (fact 𝓤 (IfErr r Refused))) (fact_i 𝓤 _ (emp 𝓤) (if_err Refused lent r e refused)) $
    use0 𝓛 (raw (fact 𝓤 (IfOk r Fitting))) (fact_i 𝓤 _ (emp 𝓤) (if_ok Fitting lent r e fitting)) $ join ! $
    use0 𝓛 (raw (fact 𝓤 (IfOk r Held))) (fact_i 𝓤 _ (emp 𝓤) (holds s.now (as_block given) r set')) $ join ! $
    use0 𝓛 (raw (fact 𝓤 (IfOk r Set))) (fact_i 𝓤 _ (emp 𝓤) set') $ join ! $
    use0 𝓛 (raw (fact 𝓤 (IfOk r Same))) (fact_i 𝓤 _ (emp 𝓤) (if_ok Same lent r e same)) $ join ! $
    -- [the facts; what it ends as; the result; the token]
    move ! (1 ∷ 0 ∷ []) $ join ! $ nothing ! $ nothing ! $ fjoin ! $ nothing ! $ fjoin ! $ nothing ! $ fjoin ! $ move ! (3 ∷ 0 ∷ 2 ∷ 1 ∷ []) $
    by ! (leaves 𝓛 f.ended stayed c y w r (tt, (tt, (rest (Given.exit yes) given, tt))) (tt, (tt, (tt, tt))))))))))))))))))))

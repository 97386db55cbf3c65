use Rattle.std.proofs.Common.{◌≡◌, [], ◌∷◌, ◌++◌, ap, sym, subst, ◌∙◌, append-nil}
use Rattle.std.specs.Vec.Iter.{into_iter_items}
use Rattle.zarrs_path.specs.Paths.{Path}
use Rattle.zarrs_node.specs.declared.fault.NodeFault.{NodeFault}
use Rattle.zarrs_node.specs.declared.fault.NodeFault.TheVariants.{Name, Document}
use Rattle.zarrs_check.specs.Apart.{AreApart}
use Rattle.zarrs_check.specs.StepsOfSurveys.{documents_of, names_of}
use Rattle.zarrs_check.proofs.SurveyFaults.{document_next, name_next, paths_rest, none_left}
use Rattle.zarrs_check.proofs.survey.sort_faults.Goals as goal

pub loop-prefix-preserved-in-Continue-1 : goal.loop-prefix-preserved-in-Continue-1
loop-prefix-preserved-in-Continue-1 c =
    let l = c.loop-prefix in
    let rest = into_iter_items c.next.new.self in
    let is : into_iter_items l.prefix-iterator ≡ (c.in-Some.prefix, Name) ∷ rest = c.in-Some.ensures.steps.0 ∙ ap (λ (k : NodeFault). (c.in-Some.prefix, k) ∷ rest) c.in-Name.is in (
      ap (λ fs. l.documents.items ++ documents_of fs) (sym is) ∙ l.invariant.0,
      name_next (into_iter_items l.prefix-iterator) rest c.in-Some.prefix l.names.items c.push.new.self.items _ is c.in_ok-push-in-Name.ensures.items l.invariant.1,
      paths_rest (into_iter_items l.prefix-iterator) rest (c.in-Some.prefix, Name) is l.invariant.2,
    )

pub loop-prefix-preserved : goal.loop-prefix-preserved
loop-prefix-preserved c =
    let l = c.loop-prefix in
    let rest = into_iter_items c.next.new.self in
    let e = c.in-Document.error in
    let is : into_iter_items l.prefix-iterator ≡ (c.in-Some.prefix, Document e) ∷ rest = c.in-Some.ensures.steps.0 ∙ ap (λ (k : NodeFault). (c.in-Some.prefix, k) ∷ rest) c.in-Document.is in (
      document_next (into_iter_items l.prefix-iterator) rest c.in-Some.prefix e l.documents.items c.push-in-Document.new.self.items _ is
          (c.in_ok-push-in-Document.ensures.items ∙ ap (λ (q : Path). l.documents.items ++ (q, e) ∷ []) c.in_ok-path-in-Document.ensures) l.invariant.0,
      ap (λ fs. l.names.items ++ names_of fs) (sym is) ∙ l.invariant.1,
      paths_rest (into_iter_items l.prefix-iterator) rest (c.in-Some.prefix, Document e) is l.invariant.2,
    )

pub new-requires : goal.new-requires
new-requires c =
    let l = c.loop-prefix in
    let empty = none_left _ _ l.prefix-iterator.rest.ok.0 c.in-None.ensures.steps.0 in
    record { apart = subst AreApart (sym (sym (append-nil l.documents.items) ∙ ap (λ fs. l.documents.items ++ documents_of fs) (sym empty) ∙ l.invariant.0)) c.requires.apart }

use Rattle.std.proofs.Common.{Some, None}
use Rattle.zarrs_store.proofs.BelowLemmas.{child_by_split, child_is_segment, no_child_outside}
use Rattle.zarrs_store.proofs.prefix.StorePrefix.child_name.Goals as goal

pub returns-in-Some-split_once-clause-name : goal.returns-in-Some-split_once-clause-name
returns-in-Some-split_once-clause-name c =
    child_by_split c.args.self.now c.args.key.now c.in-Some.rest.now (Some (c.in-Some-split_once.name, c.in-Some-split_once.field-0-1)) c.as_str-valid.ensures.valid c.in-Some.ensures c.in-Some-split_once.ensures.cases

pub returns-in-Some-split_once-clause-segment : goal.returns-in-Some-split_once-clause-segment
returns-in-Some-split_once-clause-segment c =
    child_is_segment c.args.self.now c.args.key.now c.in-Some-split_once.name.now c.as_str-valid.ensures.valid (returns-in-Some-split_once-clause-name c)

pub returns-in-None-split_once-clause-name : goal.returns-in-None-split_once-clause-name
returns-in-None-split_once-clause-name c =
    child_by_split c.args.self.now c.args.key.now c.in-Some.rest.now None c.as_str-valid.ensures.valid c.in-Some.ensures c.in-None-split_once.ensures.cases

pub returns-in-None-clause-name : goal.returns-in-None-clause-name
returns-in-None-clause-name c = no_child_outside _ c.in-None.ensures

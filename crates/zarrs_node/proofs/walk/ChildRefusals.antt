-- What a refusal of a child says of it, where the walk goes on.
use Rattle.std.proofs.Common.{◌≡◌, Bool, Result, Ok, Err, ◌⊎◌, ⊎_elim, Option, refl, sym, ap, subst}
use Rattle.zarrs_store.specs.Contents.{Contents}
use Rattle.zarrs_store.specs.declared.storage_error.StorageError.TheVariants.{Fault, InvalidMetadata, Other, OutOfMemory as NoStoreMemory}
use Rattle.zarrs_path.specs.Paths.{Path, IsPath}
use Rattle.zarrs_meta.specs.declared.node.NodeMetadata.{NodeMetadata}
use Rattle.zarrs_config.specs.declared.version.MetadataRetrieveVersion.{MetadataRetrieveVersion}
use Rattle.zarrs_meaning.specs.Meaning.{meaning, bad}
use Rattle.zarrs_meaning.specs.Refusals.{IsExcused, IsInvalidPath}
use Rattle.zarrs_meaning.specs.declared.node_create_error.NodeCreateError.{NodeCreateError}
use Rattle.zarrs_meaning.specs.declared.node_create_error.NodeCreateError.TheVariants.{NodePathError, StorePrefixError, StorageError, MetadataVersionMismatch, MissingMetadata, OutOfMemory}
use Rattle.zarrs_node.specs.StepsOfTheWalk.{fault_of, IsFaultOf}
use Rattle.zarrs_node.specs.declared.descent.Child.{Child}
use Rattle.zarrs_node.specs.declared.descent.Child.TheVariants.{Read, Told}
use Rattle.zarrs_node.specs.declared.fault.NodeFault.{NodeFault}
use Rattle.zarrs_node.proofs.walk.BadDocuments.{bad_by_document}

-- an answer is given
abbrev IsGiven : {A E : Type 0} → Result A E → Type 0
IsGiven (Ok x) = Unit {0}
IsGiven (Err e) = ⊥

-- what an answer gives
abbrev given_or : {A E : Type 0} → A → Result A E → A
given_or d (Ok x) = x
given_or d (Err e) = d

-- what an answer refuses
abbrev refused_or : {A E : Type 0} → E → Result A E → E
refused_or d (Ok x) = d
refused_or d (Err e) = e

-- a child that was not read was told
pub told_unread : (child : Child) → ((found : Option NodeMetadata) → child ≡ Read found → ⊥) → child ≡ Told
told_unread (Read found) unread = absurd (unread found refl)
told_unread Told unread = refl

module _ (can_fail : Bool) (s : Contents) (v : MetadataRetrieveVersion) (c : Path) where
  -- the refusal of a child
  abbrev pub RefusesChild : NodeCreateError → Type 0
  RefusesChild e = IsExcused can_fail e ⊎ (IsInvalidPath c e × (IsPath c → ⊥)) ⊎ (IsPath c × (meaning s v c ≡ bad e))

  -- what it says of the child is the child's own fault
  pub told_of : (e : NodeCreateError) (k : NodeFault) → fault_of e ≡ Ok k → RefusesChild e → IsFaultOf s v c k
  told_of (StorageError (InvalidMetadata key fault)) k is why =
      subst (IsFaultOf s v c) (ap (given_or k) is) (⊎_elim (λ x. absurd x) (⊎_elim (λ n. absurd n.0) (λ d. d)) why)
  told_of (StorageError (Other text)) k is why =
      subst (IsFaultOf s v c) (ap (given_or k) is) (⊎_elim (λ x. absurd x) (⊎_elim (λ n. n.1) (λ d. absurd (bad_by_document s v c (StorageError (Other text)) d.1))) why)
  told_of MetadataVersionMismatch k is why =
      subst (IsFaultOf s v c) (ap (given_or k) is) (⊎_elim (λ x. absurd x) (⊎_elim (λ n. absurd n.0) (λ d. d)) why)
  told_of (NodePathError e) k is why = absurd (subst IsGiven (sym is) tt)
  told_of (StorePrefixError e) k is why = absurd (subst IsGiven (sym is) tt)
  told_of (StorageError Fault) k is why = absurd (subst IsGiven (sym is) tt)
  told_of (StorageError NoStoreMemory) k is why = absurd (subst IsGiven (sym is) tt)
  told_of (MissingMetadata text) k is why = absurd (subst IsGiven (sym is) tt)
  told_of OutOfMemory k is why = absurd (subst IsGiven (sym is) tt)

  -- what says nothing of the child is excused
  excused_of : (e : NodeCreateError) → fault_of e ≡ Err e → RefusesChild e → IsExcused can_fail e
  excused_of (StorageError (InvalidMetadata key fault)) is why = absurd (subst IsGiven is tt)
  excused_of (StorageError (Other text)) is why = absurd (subst IsGiven is tt)
  excused_of MetadataVersionMismatch is why = absurd (subst IsGiven is tt)
  excused_of (NodePathError e) is why = ⊎_elim (λ x. x) (⊎_elim (λ n. absurd n.0) (λ d. absurd (bad_by_document s v c (NodePathError e) d.1))) why
  excused_of (StorePrefixError e) is why = ⊎_elim (λ x. x) (⊎_elim (λ n. absurd n.0) (λ d. absurd (bad_by_document s v c (StorePrefixError e) d.1))) why
  excused_of (StorageError Fault) is why = ⊎_elim (λ x. x) (⊎_elim (λ n. absurd n.0) (λ d. absurd (bad_by_document s v c (StorageError Fault) d.1))) why
  excused_of (StorageError NoStoreMemory) is why = tt
  excused_of (MissingMetadata text) is why = ⊎_elim (λ x. x) (⊎_elim (λ n. absurd n.0) (λ d. absurd (bad_by_document s v c (MissingMetadata text) d.1))) why
  excused_of OutOfMemory is why = tt

  -- what the sorting refuses is the refusal
  refused_same : (e d : NodeCreateError) → fault_of e ≡ Err d → d ≡ e
  refused_same (StorageError (InvalidMetadata key fault)) d is = absurd (subst IsGiven is tt)
  refused_same (StorageError (Other text)) d is = absurd (subst IsGiven is tt)
  refused_same MetadataVersionMismatch d is = absurd (subst IsGiven is tt)
  refused_same (NodePathError e) d is = sym (ap (refused_or d) is)
  refused_same (StorePrefixError e) d is = sym (ap (refused_or d) is)
  refused_same (StorageError Fault) d is = sym (ap (refused_or d) is)
  refused_same (StorageError NoStoreMemory) d is = sym (ap (refused_or d) is)
  refused_same (MissingMetadata text) d is = sym (ap (refused_or d) is)
  refused_same OutOfMemory d is = sym (ap (refused_or d) is)

  -- so it is excused
  pub sorted_excused : (e d : NodeCreateError) → fault_of e ≡ Err d → RefusesChild e → IsExcused can_fail d
  sorted_excused e d is why =
      let same = refused_same e d is in
      subst (IsExcused can_fail) (sym same) (excused_of e (subst (λ x. fault_of e ≡ Err x) same is) why)

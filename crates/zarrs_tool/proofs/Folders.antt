-- From a folder's refusal, and from that of a run over its store, to the run's; the words of a folder's command.
use Rattle.std.proofs.Common.{◌≡◌, ℕ, ◌-◌, ◌<◌, ◌≤◌, Bool, true, false, not, true≢false, List, [], ◌∷◌, length, get_or, take, drop, Option, String, Global, string_bytes, codes, inl, inr, ⊎_elim, sym, subst, ap, refl, ◌∙◌, arith}
use Rattle.std.specs.Prelude.{◌≢◌, Result, Ok, Err, IfErr, OnOk}
use Rattle.std.specs.Str.{bytes_eq}
use Rattle.std.proofs.lemmas.Slice.Eq.{bytes_eq-Decides}
use Rattle.zarrs_store.specs.Contents.{Values}
use Rattle.zarrs_load.specs.Folder.{HoldsDocumentsAlone, IsFolderFault}
use Rattle.zarrs_tool.specs.Output.{IsCommand, WritesOfImage, WritesOutput, in_whole_numbers, texts}
use Rattle.zarrs_tool.specs.StepsOfRuns.{IsFolderCommand, IsFolderWords, WritesAnswer, WritesOfFolder, RefusedAnswer, RefusedFolder}
use Rattle.zarrs_tool.specs.Refusals.{IsLoadFault, IsRefusal, RefusedRun}
use Rattle.zarrs_tool.specs.declared.fault.ToolFault.{ToolFault}
use Rattle.zarrs_tool.specs.declared.fault.ToolFault.TheVariants.{Usage}

-- a folder's fault refuses the run
pub folder_fault_result : {T : Type 0} (words : List (List ℕ)) (r : Result T ToolFault) (fault : ToolFault) → r ≡ Err fault → IsLoadFault IsFolderFault fault → IfErr r (RefusedFolder words)
folder_fault_result words r fault is refused = subst (λ x. IfErr x (RefusedFolder words)) (sym is) (inl refused)

-- what refuses the words over the folder's store refuses the run
pub store_fault_result : {T : Type 0} (words : List (List ℕ)) (values : Values) (r : Result T ToolFault) → HoldsDocumentsAlone values → IfErr r (IsRefusal false words (in_whole_numbers values)) → IfErr r (RefusedFolder words)
store_fault_result words values (Ok x) holds refused = tt
store_fault_result words values (Err fault) holds refused = inr (values, holds, refused)

-- what the words wrote about the folder's store, the run wrote
pub written_folder : {E : Type 0} (words : List (List ℕ)) (values : Values) (old new : Option (List ℕ)) (r : Result (Unit {0}) E)
    → HoldsDocumentsAlone values → OnOk r (WritesOutput words (in_whole_numbers values) old new) → OnOk r (WritesOfFolder words old new)
written_folder words values old new (Ok done) holds writes = (values, holds, writes)
written_folder words values old new (Err e) holds writes = tt

-- a run over a folder answers
pub folder_answered : (words : List (List ℕ)) (left before after : Option (List ℕ)) (folder : List ℕ) (tree : List (List ℕ)) → IsFolderWords words folder tree
    → WritesOfFolder tree before after → WritesAnswer words left before after
folder_answered words left before after folder tree is writes = inr (folder, tree, is, writes)

-- a run over an image answers
pub image_answered : (words : List (List ℕ)) (left before after : Option (List ℕ)) → WritesOfImage words left before after → WritesAnswer words left before after
image_answered words left before after writes = inl writes

-- a refused run over a folder refuses
pub folder_refused : (words : List (List ℕ)) (before after : Option (List ℕ)) (folder : List ℕ) (tree : List (List ℕ)) (Q : ToolFault → Type 0) → IsFolderWords words folder tree
    → (fault : ToolFault) × (fault ≢ Usage) × RefusedFolder tree fault × Q fault → (fault : ToolFault) × (fault ≢ Usage) × RefusedAnswer words before after fault × Q fault
folder_refused words before after folder tree Q is (fault, known, refused, keeps) = (fault, known, inr (folder, tree, is, refused), keeps)

-- a refused run over an image refuses
pub image_refused : (words : List (List ℕ)) (before after : Option (List ℕ)) (Q : ToolFault → Type 0) → (IsFolderCommand words → ⊥)
    → (fault : ToolFault) × (fault ≢ Usage) × RefusedRun words before after fault × Q fault → (fault : ToolFault) × (fault ≢ Usage) × RefusedAnswer words before after fault × Q fault
image_refused words before after Q none (fault, known, refused, keeps) = (fault, known, inl (none, refused), keeps)

-- a run that is refused for its words has none that are a command
pub not_words : {T : Type 0} (words : List (List ℕ)) (r : Result T ToolFault) → r ≡ Err Usage → IfErr r (RefusedFolder words) → IsCommand words → ⊥
not_words words r is refused =
    let said : RefusedFolder words Usage = subst (λ x. IfErr x (RefusedFolder words)) is refused in ⊎_elim (λ no. absurd no) (λ found. found.2) said

-- a test of which the contrary is false is true
truth : (b : Bool) → false ≡ not b → b ≡ true
truth true e = refl
truth false e = absurd (true≢false (sym e))

-- two texts of which it is false that they differ are one
pub not_differing : (t s : List ℕ) → false ≡ not (bytes_eq t s) → t ≡ s
not_differing t s e = (bytes_eq-Decides t s).0 (truth (bytes_eq t s) e)

-- four words of which the first and the third are those of a folder's command
pub four_words : (ws : List (String Global)) (a b t p : String Global) → 4 ≤ length ws → length ws < 5
    → a ≡ get_or ws 0 a → b ≡ get_or ws 1 b → t ≡ get_or ws 2 t → p ≡ get_or ws 3 p → string_bytes a ≡ codes "folder" → string_bytes t ≡ codes "tree"
    → IsFolderWords (texts ws) (string_bytes b) (texts (take (length ws - 2) (drop 2 ws)))
four_words [] a b t p low high e0 e1 e2 e3 word tree = absurd (omega arith)
four_words (x ∷ []) a b t p low high e0 e1 e2 e3 word tree = absurd (omega arith)
four_words (x ∷ y ∷ []) a b t p low high e0 e1 e2 e3 word tree = absurd (omega arith)
four_words (x ∷ y ∷ z ∷ []) a b t p low high e0 e1 e2 e3 word tree = absurd (omega arith)
four_words (x ∷ y ∷ z ∷ w ∷ []) a b t p low high e0 e1 e2 e3 word tree =
    let rest : List (List ℕ) = string_bytes z ∷ string_bytes w ∷ [] in (
      string_bytes w,
      ap (λ s. s ∷ string_bytes w ∷ []) (sym (ap (λ v. string_bytes v) e2) ∙ tree),
      ap (λ s. s ∷ string_bytes y ∷ rest) (sym (ap (λ v. string_bytes v) e0) ∙ word) ∙ ap (λ s. codes "folder" ∷ s ∷ rest) (sym (ap (λ v. string_bytes v) e1)),
    )
four_words (x ∷ y ∷ z ∷ w ∷ v ∷ ws) a b t p low high e0 e1 e2 e3 word tree = absurd (omega arith)

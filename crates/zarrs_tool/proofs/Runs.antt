-- From a store's refusal to a run's.
use Rattle.std.proofs.Common.{◌≡◌, ℕ, List, ◌∷◌, [], Option, Bool, false, sym, subst, ap, refl, inl, inr, Vec, Global}
use Rattle.std.specs.Prelude.{◌≢◌, Result, Ok, Err, IfOk, IfErr, OnOk}
use Rattle.std.specs.Io.KnownBytes.{Appends, IsAtEnd}
use Rattle.zarrs_store.specs.Contents.{Contents, Values}
use Rattle.zarrs_path.specs.Paths.{Path, IsPath, path_text}
use Rattle.zarrs_meaning.specs.declared.node_create_error.NodeCreateError.{NodeCreateError}
use Rattle.zarrs_load.specs.Image.{IsLoaded, RefusedImage}
use Rattle.zarrs_program.specs.Words.{RefusesPathText}
use Rattle.zarrs_tool.specs.Output.{IsCommand, IsOutput, Writes, WritesOutput, in_whole_numbers, word_text}
use Rattle.zarrs_tool.specs.StepsOfRuns.{command_words, IsWordFault, WantsGroup, WantsWhole}
use Rattle.zarrs_tool.specs.Refusals.{IsLoadFault, IsRefusal, RefusedRun, RefusesArray, RefusesFraction}
use Rattle.zarrs_tool.proofs.Fractions.{no_fraction}
use Rattle.zarrs_tool.specs.declared.run.Command.{Command}
use Rattle.zarrs_tool.specs.declared.run.Word.{Word}
use Rattle.zarrs_tool.specs.declared.run.Word.TheVariants.{Children, List as ListAll, Tree, Consolidate}
use Rattle.zarrs_tool.specs.declared.fault.ToolFault.{ToolFault}
use Rattle.zarrs_tool.specs.declared.fault.ToolFault.TheVariants.{Usage, Read, ReadTooLong, Image, ImageKey, ImageValue, Folder, NotAGroup, Fraction, Node, Write, OutOfMemory}

-- the words of a command are one
pub is_command : (command : Command) (words : List (List ℕ)) → command_words command ≡ words → IsCommand words
is_command command words same = (command.word, command.path.now, sym same)

-- a run of a command is never refused for its words
pub usage_of_none : {T : Type 0} (command : Command) (words : List (List ℕ)) (r : Result T ToolFault) → command_words command ≡ words → r ≢ Err Usage
    → (r ≡ Err Usage → IsCommand words → ⊥) × ((IsCommand words → ⊥) → r ≡ Err Usage)
usage_of_none command words r same known = ((λ (usage : r ≡ Err Usage) is. known usage), (λ none. absurd (none (is_command command words same))))

-- a refusal over the store of the image refuses the run
pub refused_run : (words : List (List ℕ)) (before after : Option (List ℕ)) (values : Values) (fault : ToolFault) → IsCommand words
    → IsAtEnd after → IsLoaded before values → IsRefusal false words (in_whole_numbers values) fault → RefusedRun words before after fault
refused_run words before after values Usage command end loaded refused = absurd (refused command)
refused_run words before after values OutOfMemory command end loaded refused = tt
refused_run words before after values (Node e) command end loaded refused = (end, (values, loaded, refused))
refused_run words before after values Write command end loaded refused = (end, (values, loaded, refused))
refused_run words before after values Read command end loaded refused = tt
refused_run words before after values ReadTooLong command end loaded refused = absurd refused
refused_run words before after values Image command end loaded refused = absurd refused
refused_run words before after values (ImageKey name) command end loaded refused = absurd refused
refused_run words before after values (ImageValue name) command end loaded refused = absurd refused
refused_run words before after values Folder command end loaded refused = absurd refused
refused_run words before after values NotAGroup command end loaded refused = (end, (values, loaded, refused))
refused_run words before after values (Fraction p) command end loaded refused = absurd (no_fraction values refused.0 p refused.3)

-- an error over the store of the image refuses the run
pub refused_result : {T : Type 0} (command : Command) (words : List (List ℕ)) (before after : Option (List ℕ)) (values : Values) (r : Result T ToolFault) → command_words command ≡ words
    → IsAtEnd after → IsLoaded before values → IfErr r (IsRefusal false (command_words command) (in_whole_numbers values)) → IfErr r (RefusedRun words before after)
refused_result command words before after values (Ok x) same end loaded refused = tt
refused_result command words before after values (Err fault) same end loaded refused =
    refused_run words before after values fault (is_command command words same) end loaded (subst (λ w. IsRefusal false w (in_whole_numbers values) fault) same refused)

-- a refused image refuses the run
pub refused_load : (words : List (List ℕ)) (before after : Option (List ℕ)) (fault : ToolFault) → IsLoadFault (RefusedImage before after) fault → RefusedRun words before after fault
refused_load words before after Usage refused = absurd refused
refused_load words before after (Node e) refused = absurd refused
refused_load words before after Write refused = absurd refused
refused_load words before after Read refused = refused
refused_load words before after ReadTooLong refused = refused
refused_load words before after Image refused = refused
refused_load words before after (ImageKey name) refused = refused
refused_load words before after (ImageValue name) refused = refused
refused_load words before after Folder refused = refused
refused_load words before after NotAGroup refused = absurd refused
refused_load words before after (Fraction p) refused = absurd refused
refused_load words before after OutOfMemory refused = refused

-- the words of a command are refused by no image
pub not_usage : {T : Type 0} (words : List (List ℕ)) (before after : Option (List ℕ)) (r : Result T ToolFault) (fault : ToolFault) → IsCommand words → r ≡ Err fault
    → IsLoadFault (RefusedImage before after) fault → (r ≡ Err Usage → IsCommand words → ⊥) × ((IsCommand words → ⊥) → r ≡ Err Usage)
not_usage words before after r fault command is refused =
    ((λ (usage : r ≡ Err Usage) command'. let same : fault ≡ Usage = cc in subst (IsLoadFault (RefusedImage before after)) same refused), (λ none. absurd (none command)))

-- an error of a refused image refuses the run
pub refused_load_result : {T : Type 0} (words : List (List ℕ)) (before after : Option (List ℕ)) (r : Result T ToolFault) (fault : ToolFault) → r ≡ Err fault
    → IsLoadFault (RefusedImage before after) fault → IfErr r (RefusedRun words before after)
refused_load_result words before after r fault is refused = subst (λ x. IfErr x (RefusedRun words before after)) (sym is) (refused_load words before after fault refused)

-- what a command wrote about the store of the image, the words wrote about the image
pub written_result : {E : Type 0} (command : Command) (words : List (List ℕ)) (before : Option (List ℕ)) (values : Values) (old new : Option (List ℕ)) (r : Result (Unit {0}) E) → command_words command ≡ words → IsLoaded before values
    → OnOk r (WritesOutput (command_words command) (in_whole_numbers values) old new) → OnOk r ((v : Values) × IsLoaded before v × WritesOutput words (in_whole_numbers v) old new)
written_result command words before values old new (Ok done) same loaded writes = (values, loaded, subst (λ w. WritesOutput w (in_whole_numbers values) old new) same writes)
written_result command words before values old new (Err e) same loaded writes = tt

-- what a command writes, its words write
pub worded_output : {E : Type 0} (command : Command) (words : List (List ℕ)) (store : Contents) (old new : Option (List ℕ)) (r : Result (Unit {0}) E) → command_words command ≡ words
    → OnOk r (WritesOutput (command_words command) store old new) → OnOk r (WritesOutput words store old new)
worded_output command words store old new r same writes = subst (λ w. OnOk r (WritesOutput w store old new)) same writes

-- the output that was appended was written
pub written_whole : (words : List (List ℕ)) (store : Contents) (old new : Option (List ℕ)) (text said : List ℕ) → IsOutput words store text → said ≡ text → Appends old new said → WritesOutput words store old new
written_whole words store old new text said is same appends = (text, is, subst (Appends old new) same appends)

-- where the writer fails there was an output
pub unwritten_result : {T : Type 0} (can_fail : Bool) (words : List (List ℕ)) (store : Contents) (text : List ℕ) (r : Result T ToolFault) → IsOutput words store text
    → r ≡ Err Write → IfErr r (IsRefusal can_fail words store)
unwritten_result can_fail words store text r is failed = subst (λ x. IfErr x (IsRefusal can_fail words store)) (sym failed) (text, is)

-- a refusal of the words' path or listing, which is neither of the writer nor of the words
abbrev pub IsOutputFault : Bool → List (List ℕ) → Contents → ToolFault → Type 0
IsOutputFault can_fail words store fault = (fault ≢ Write) × (fault ≢ Usage) × IsRefusal can_fail words store fault

-- a path that is none refuses the command
path_fault : (can_fail : Bool) (command : Command) (store : Contents) (e : NodeCreateError) → RefusesPathText command.path.now e → IsOutputFault can_fail (command_words command) store (Node e)
path_fault can_fail command store e refused = ((λ (h : Node e ≡ Write). cc h), (λ (h : Node e ≡ Usage). cc h), inl (command.word, command.path.now, refl, refused))

-- an error that a path is none refuses the command
pub path_fault_result : {T : Type 0} (can_fail : Bool) (command : Command) (store : Contents) (r : Result T ToolFault) (e : NodeCreateError) → r ≡ Err (Node e) → RefusesPathText command.path.now e
    → IfErr r (λ f. (f ≢ Write) × (f ≢ Usage) × IsRefusal can_fail (command_words command) store f)
path_fault_result can_fail command store r e is refused = subst (λ x. IfErr x (λ f. (f ≢ Write) × (f ≢ Usage) × IsRefusal can_fail (command_words command) store f)) (sym is) (path_fault can_fail command store e refused)

module _ (can_fail : Bool) (command : Command) (store : Contents) (base : Path) (valid : IsPath base) (same : path_text base ≡ command.path.now) where
  -- the words of the command are the word and the text of the base
  worded : command_words command ≡ word_text command.word ∷ path_text base ∷ []
  worded = ap (λ p. word_text command.word ∷ p ∷ []) (sym same)

  -- what the word writes is the command's output
  pub word_output : (r : Result (Vec ℕ Global) ToolFault) → IfOk r (λ text. Writes command.word store base text.items) → IfOk r (λ text. IsOutput (command_words command) store text.items)
  word_output (Ok text) writes = (command.word, base, valid, worded, writes)
  word_output (Err e) writes = tt

  -- of all words `consolidate` alone wants a group
  array_refused : (word : Word) (words : List (List ℕ)) → words ≡ word_text word ∷ path_text base ∷ [] → WantsGroup word store base → RefusesArray words store
  array_refused Children words is wants = absurd wants
  array_refused ListAll words is wants = absurd wants
  array_refused Tree words is wants = absurd wants
  array_refused Consolidate words is wants = (base, valid, is, wants.0, wants.1)

  -- of all words `consolidate` alone writes whole numbers only
  fraction_refused : (word : Word) (words : List (List ℕ)) (p : Path) → words ≡ word_text word ∷ path_text base ∷ [] → WantsWhole word store base p → RefusesFraction words store p
  fraction_refused Children words p is wants = absurd wants
  fraction_refused ListAll words p is wants = absurd wants
  fraction_refused Tree words p is wants = absurd wants
  fraction_refused Consolidate words p is wants = (base, valid, is, wants)

  -- what refuses the word refuses the command
  word_fault : (fault : ToolFault) → IsWordFault can_fail command.word store base fault → IsOutputFault can_fail (command_words command) store fault
  word_fault (Node e) refused = ((λ (h : Node e ≡ Write). cc h), (λ (h : Node e ≡ Usage). cc h), inr (command.word, base, valid, worded, refused))
  word_fault NotAGroup refused = ((λ (h : NotAGroup ≡ Write). cc h), (λ (h : NotAGroup ≡ Usage). cc h), array_refused command.word (command_words command) worded refused)
  word_fault (Fraction p) refused = ((λ (h : Fraction p ≡ Write). cc h), (λ (h : Fraction p ≡ Usage). cc h), fraction_refused command.word (command_words command) p worded refused)
  word_fault OutOfMemory refused = ((λ (h : OutOfMemory ≡ Write). cc h), (λ (h : OutOfMemory ≡ Usage). cc h), tt)
  word_fault Usage refused = absurd refused
  word_fault Read refused = absurd refused
  word_fault ReadTooLong refused = absurd refused
  word_fault Image refused = absurd refused
  word_fault (ImageKey name) refused = absurd refused
  word_fault (ImageValue name) refused = absurd refused
  word_fault Folder refused = absurd refused
  word_fault Write refused = absurd refused

  -- an error that refuses the word refuses the command
  pub word_fault_result : {T : Type 0} (r : Result T ToolFault) → IfErr r (IsWordFault can_fail command.word store base)
      → IfErr r (λ f. (f ≢ Write) × (f ≢ Usage) × IsRefusal can_fail (command_words command) store f)
  word_fault_result (Ok x) refused = tt
  word_fault_result (Err fault) refused = word_fault fault refused

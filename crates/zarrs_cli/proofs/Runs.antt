-- From what a word writes of a store to the answer of a run, and from its refusal to that of the run.
use Rattle.std.proofs.Common.{◌≡◌, ◌≢◌, ◌⊎◌, ℕ, ◌==◌, Bool, true, false, true≢false, cond, List, [], Option, Some, None, codes, inl, inr, ⊎_elim, refl, sym, subst, ◌∙◌, arith, string_bytes, String, Global}
use Rattle.std.specs.Option.{option_map}
use Rattle.std.specs.Prelude.{Result, Ok, Err, IfOk, IfErr, IfSome, OnOk}
use Rattle.std.specs.Str.{bytes_eq}
use Rattle.std.specs.Io.KnownBytes.{Appends, IsAtEnd}
use Rattle.std.proofs.lemmas.Slice.Eq.{bytes_eq-Decides}
use Rattle.zarrs_store.specs.Contents.{Contents, Values}
use Rattle.zarrs_path.specs.Paths.{Path, IsPath, path_text}
use Rattle.zarrs_folder.specs.Folders.{in_any, values_of}
use Rattle.zarrs_meaning.specs.declared.node_create_error.NodeCreateError.{NodeCreateError}
use Rattle.zarrs_program.specs.Words.{RefusesPathText}
use Rattle.zarrs_program.specs.declared.output.WriteFault.{WriteFault}
use Rattle.zarrs_load.specs.Image.{IsLoaded}
use Rattle.zarrs_cli.specs.Output.{IsAnswer, IsWordText, WritesWord, WritesOverImage, WritesOverSome, WritesOverEach, WritesRequest, WritesAsked, usage_text, version_text}
use Rattle.zarrs_cli.specs.RefusalLines.{IsHint, IsNameFault, IsNameHint, SaysReason, SaysRefusal}
use Rattle.zarrs_cli.specs.Refusals.{IsOfWriter, RefusesRun, RefusesOverImage, RefusesOverSome, RefusesOverEach, RefusesOverSource, RefusesRequest, RefusesAsked, answered_status, run_status, tally_status}
use Rattle.zarrs_cli.specs.StepsOfRuns.{IsEnough, IsFaultOfEach, IsFaultOfSome, IsAnswerFault, IsWrittenOfEach, IsWrittenOfSome}
use Rattle.zarrs_cli.specs.Words.{AreWords, AskFor, with_leading_slash}
use Rattle.zarrs_cli.specs.declared.report.Tally.{Tally}
use Rattle.zarrs_cli.specs.declared.words.Asked.{Asked}
use Rattle.zarrs_cli.specs.declared.words.Asked.TheVariants.{Help, Version, Store}
use Rattle.zarrs_cli.specs.declared.words.Command.{Command}
use Rattle.zarrs_cli.specs.declared.words.Word.{Word}
use Rattle.zarrs_cli.specs.declared.words.Word.TheVariants.{Tree, StoreTree, List as ListAll, Show, Check}
use Rattle.zarrs_cli.specs.declared.consolidate.Consolidated.TheVariants.{Complete, Due}
use Rattle.zarrs_cli.specs.declared.ending.Answered.{Answered}
use Rattle.zarrs_cli.specs.declared.ending.Answered.TheVariants as answered
use Rattle.zarrs_cli.specs.declared.words.Request.{Request}
use Rattle.zarrs_cli.specs.declared.words.Request.TheVariants.{Look, Consolidate as Change}
use Rattle.zarrs_cli.specs.declared.fault.ZarrsFault.{ZarrsFault}
use Rattle.zarrs_cli.specs.declared.fault.ZarrsFault.TheVariants.{Usage, Load, Folder, Node, TooDeep, Consolidate, Replace, Write, Closed, OutOfMemory}
use Rattle.zarrs_cli.proofs.LoadedAnswers.{IsSameFor, deep_over, writes_over, refuses_over}

-- ---- results

-- what holds on success holds in another form
ok_weaker : {A E : Type 0} {P Q : A → Type 0} (r : Result A E) → ((x : A) → P x → Q x) → IfOk r P → IfOk r Q
ok_weaker (Ok x) f p = f x p
ok_weaker (Err e) f p = tt

-- what holds of an error holds in another form
err_weaker : {A E : Type 0} {P Q : E → Type 0} (r : Result A E) → ((e : E) → P e → Q e) → IfErr r P → IfErr r Q
err_weaker (Ok x) f p = tt
err_weaker (Err e) f p = f e p

-- what holds of an error holds of the result that has it
pub err_given : {A : Type 0} (P : ZarrsFault → Type 0) (r : Result A ZarrsFault) (fault : ZarrsFault) → r ≡ Err fault → P fault → IfErr r P
err_given P r fault is holds = subst (λ x. IfErr x P) (sym is) holds

-- what holds of both faults of the writer holds of one of them
pub of_writer : (P : ZarrsFault → Type 0) (fault : ZarrsFault) → P Write → P Closed → IsOfWriter fault → P fault
of_writer P fault failed closed is = ⊎_elim (λ e. subst P (sym e) failed) (λ e. subst P (sym e) closed) is

-- ---- over a store

-- a text that is no path refuses the run
pub base_refused : (can_fail : Bool) (word : Word) (path : List ℕ) (store : Contents) (e : NodeCreateError) → RefusesPathText path e → RefusesRun can_fail word path store (Node e)
base_refused can_fail word path store e refused = inl refused

-- what the calls of the word refuse is refused
pub word_refused : (can_fail : Bool) (word : Word) (path : List ℕ) (store : Contents) (base : Path) (fault : ZarrsFault) → IsPath base → path_text base ≡ path
    → IsAnswerFault can_fail word store base fault → RefusesRun can_fail word path store fault
word_refused can_fail word path store base (Node e) valid same refused = inr (base, valid, same, refused)
word_refused can_fail word path store base OutOfMemory valid same refused = tt
word_refused can_fail word path store base Usage valid same refused = absurd refused
word_refused can_fail word path store base (Load e) valid same refused = absurd refused
word_refused can_fail word path store base (Folder e) valid same refused = absurd refused
word_refused can_fail word path store base Write valid same refused = absurd refused
word_refused can_fail word path store base Closed valid same refused = absurd refused
word_refused can_fail word path store base TooDeep valid same refused = (base, valid, same, refused)
word_refused can_fail word path store base (Consolidate e) valid same refused = absurd refused
word_refused can_fail word path store base (Replace e) valid same refused = absurd refused

-- where the writer fails, or nobody reads, there is an answer
pub unwritten : (can_fail : Bool) (word : Word) (path : List ℕ) (store : Contents) (tally : Option Tally) (text : List ℕ) (fault : ZarrsFault) → IsAnswer word path store tally text
    → IsOfWriter fault → RefusesRun can_fail word path store fault
unwritten can_fail word path store tally text fault is failed = of_writer (RefusesRun can_fail word path store) fault (tally, text, is) (tally, text, is) failed

-- ---- over an image

-- what is written of the store of the image is written of the image
pub written_image : (word : Word) (path : List ℕ) (left old new : Option (List ℕ)) (values : Values) (r : Result (Option Tally) ZarrsFault) → IsLoaded left values
    → IfOk r (WritesWord word path (in_any values) old new) → IfOk r (WritesOverImage word path left old new)
written_image word path left old new values (Ok tally) loaded writes = (values, loaded, writes)
written_image word path left old new values (Err e) loaded writes = tt

-- what refuses the run over that store refuses that over the image
pub refused_image : (word : Word) (path : List ℕ) (before after : Option (List ℕ)) (values : Values) (r : Result (Option Tally) ZarrsFault) → IsAtEnd after → IsLoaded before values
    → IfErr r (RefusesRun false word path (in_any values)) → IfErr r (RefusesOverImage word path before after)
refused_image word path before after values (Ok tally) end loaded refused = tt
refused_image word path before after values (Err fault) end loaded refused = inr (end, (values, loaded, refused))

-- ---- over a folder

-- what is enough for a word is the same for it
enough_same : (word : Word) (S L : Contents) (b : Path) → IsEnough word S L b → IsSameFor word S L b
enough_same Tree S L b same = same
enough_same StoreTree S L b same = same
enough_same ListAll S L b same = same
enough_same Show S L b same = same
enough_same (Check options) S L b loaded = loaded

-- what refuses a word of a store that has enough of another refuses it of the other
fault_over : (word : Word) (S L : Contents) (b : Path) (fault : ZarrsFault) → IsPath b → IsEnough word S L b → IsAnswerFault false word L b fault → IsAnswerFault false word S b fault
fault_over word S L b (Node e) valid same refused = refuses_over false word S L b e valid (enough_same word S L b same) refused
fault_over word S L b OutOfMemory valid same refused = tt
fault_over word S L b Usage valid same refused = absurd refused
fault_over word S L b (Load e) valid same refused = absurd refused
fault_over word S L b (Folder e) valid same refused = absurd refused
fault_over word S L b Write valid same refused = absurd refused
fault_over word S L b Closed valid same refused = absurd refused
fault_over word S L b TooDeep valid same refused = deep_over word S L b (enough_same word S L b same) refused
fault_over word S L b (Consolidate e) valid same refused = absurd refused
fault_over word S L b (Replace e) valid same refused = absurd refused

module _ (word : Word) (b : Path) (L : Values) (r : Result (Option Tally × String Global) ZarrsFault) where
  -- what is written of what was loaded is written of some store
  pub made_of_some : IfOk r (λ made. IsWordText word (in_any L) b made.0 (string_bytes made.1)) → IfOk r (IsWrittenOfSome word b)
  made_of_some = ok_weaker r (λ made writes. (L, writes))

  -- a fault over what was loaded is one over some store
  pub fault_of_some : IfErr r (IsAnswerFault false word (in_any L) b) → IfErr r (IsFaultOfSome word b)
  fault_of_some = err_weaker r (λ fault refused. inr (L, refused))

  module _ (P : Values → Type 0) (valid : IsPath b) (enough : (V : Values) → P V → IsEnough word (in_any V) (in_any L) b) where
    -- what is written of what was loaded is written of each store of which it is enough
    pub made_of_each : IfOk r (λ made. IsWordText word (in_any L) b made.0 (string_bytes made.1)) → IfOk r (IsWrittenOfEach word b P)
    made_of_each = ok_weaker r (λ made writes V p. writes_over word (in_any V) (in_any L) b made.0 (string_bytes made.1) valid (enough_same word (in_any V) (in_any L) b (enough V p)) writes)

    pub fault_of_each : IfErr r (IsAnswerFault false word (in_any L) b) → IfErr r (IsFaultOfEach word b P)
    fault_of_each = err_weaker r (λ fault refused. inr (λ V p. fault_over word (in_any V) (in_any L) b fault valid (enough V p) refused))

module _ (word : Word) (path : List ℕ) (b : Path) (valid : IsPath b) (same : path_text b ≡ path) where
  -- what refuses the words refuses the run
  pub refused_of_some : (fault : ZarrsFault) → IsFaultOfSome word b fault → RefusesOverSome word path fault
  refused_of_some fault = ⊎_elim inl (λ why. inr (why.0, word_refused false word path (in_any why.0) b fault valid same why.1))

  -- what refuses the words over each store refuses the run over each store
  pub refused_of_each : (P : Values → Type 0) (fault : ZarrsFault) → IsFaultOfEach word b P fault → RefusesOverEach word path P fault
  refused_of_each P fault = ⊎_elim inl (λ why. inr (λ V p. word_refused false word path (in_any V) b fault valid same (why V p)))

  module _ (made : Option Tally × String Global) (old new : Option (List ℕ)) (appends : Appends old new (string_bytes made.1)) where
    -- what was made and appended was written
    pub written_of_some : IsWrittenOfSome word b made → WritesOverSome word path old new made.0
    written_of_some writes = (writes.0, (string_bytes made.1, (b, valid, same, writes.1), appends))

    pub written_of_each : (P : Values → Type 0) → IsWrittenOfEach word b P made → WritesOverEach word path P old new made.0
    written_of_each P writes = λ V p. (string_bytes made.1, (b, valid, same, writes V p), appends)

  -- where the writer fails, or nobody reads, there is an answer
  pub unwritten_of_some : (made : Option Tally × String Global) (fault : ZarrsFault) → IsWrittenOfSome word b made → IsOfWriter fault → RefusesOverSome word path fault
  unwritten_of_some made fault writes failed = inr (writes.0, unwritten false word path (in_any writes.0) made.0 (string_bytes made.1) fault (b, valid, same, writes.1) failed)

-- a text that is no path refuses the run over any store
pub base_of_some : (word : Word) (path : List ℕ) (e : NodeCreateError) → RefusesPathText path e → RefusesOverSome word path (Node e)
base_of_some word path e refused = inr (values_of [], base_refused false word path (in_any (values_of [])) e refused)

-- ---- by the source

module _ (word : Word) (source path : List ℕ) where
  -- what is told to differ does
  other : bytes_eq source (codes "-") ≡ false → source ≢ codes "-"
  other differs same = true≢false (sym ((bytes_eq-Decides source (codes "-")).1 same) ∙ differs)

  -- out of memory refuses what is looked at in either
  memory_at : (b : Bool) → bytes_eq source (codes "-") ≡ b → (before after : Option (List ℕ)) → RefusesOverSource word source path before after OutOfMemory
  memory_at true e before after = inl ((bytes_eq-Decides source (codes "-")).0 e, inl tt)
  memory_at false e before after = inr (other e, inl tt)

-- and each request
pub memory_refused : (request : Request) (source path : List ℕ) (before after : Option (List ℕ)) → RefusesRequest request source path before after OutOfMemory
memory_refused (Look word) source path before after = memory_at word source path (bytes_eq source (codes "-")) refl before after
memory_refused (Change options) source path before after = inl tt

-- ---- by the words

-- what a text that is about no store appends answers the words that ask for it
alone : (words : List (List ℕ)) (left old new : Option (List ℕ)) (r : Result Answered ZarrsFault) (text : List ℕ)
    → ((end : Answered) → end ≡ answered.Looked None → Appends old new text → WritesAsked words left old new end)
    → IfOk r (λ end. end ≡ answered.Looked None) → IfOk r (λ end. Appends old new text) → IfOk r (WritesAsked words left old new)
alone words left old new (Ok end) text asked none appends = asked end none appends
alone words left old new (Err e) text asked none appends = tt

-- the usage that was appended answers the words that ask for it
pub help_answered : (words : List (List ℕ)) (asked : Asked) (left old new : Option (List ℕ)) (text : List ℕ) (r : Result Answered ZarrsFault) → AskFor words asked → asked ≡ Help
    → text ≡ usage_text → IfOk r (λ end. end ≡ answered.Looked None) → IfOk r (λ end. Appends old new text) → IfOk r (WritesAsked words left old new)
help_answered words asked left old new text r are is same =
    alone words left old new r text (λ end none appends. inl (subst (AskFor words) is are, none, subst (Appends old new) same appends))

-- and so does the version
pub version_answered : (words : List (List ℕ)) (asked : Asked) (left old new : Option (List ℕ)) (text : List ℕ) (r : Result Answered ZarrsFault) → AskFor words asked → asked ≡ Version
    → text ≡ version_text → IfOk r (λ end. end ≡ answered.Looked None) → IfOk r (λ end. Appends old new text) → IfOk r (WritesAsked words left old new)
version_answered words asked left old new text r are is same =
    alone words left old new r text (λ end none appends. inr (inl (subst (AskFor words) is are, none, subst (Appends old new) same appends)))

-- what is written of the source that the words name answers them
pub command_answered : (words : List (List ℕ)) (command : Command) (left old new : Option (List ℕ)) (r : Result Answered ZarrsFault) → AskFor words (Store command)
    → IfOk r (WritesRequest command.request command.source.now (with_leading_slash command.path.now) left old new) → IfOk r (WritesAsked words left old new)
command_answered words command left old new r are = ok_weaker r (λ end writes. inr (inr (command.request, command.source.now, command.path.now, are, writes)))

-- where the writer fails of the usage, or nobody reads it, the words that ask for it are refused
pub help_refused : (words : List (List ℕ)) (asked : Asked) (before after : Option (List ℕ)) (r : Result Answered ZarrsFault) → AskFor words asked → asked ≡ Help
    → IfErr r IsOfWriter → IfErr r (RefusesAsked words before after)
help_refused words asked before after r are is =
    err_weaker r (λ fault failed. of_writer (RefusesAsked words before after) fault (inl (subst (AskFor words) is are)) (inl (subst (AskFor words) is are)) failed)

-- and so are those that ask for the version, where it fails of that
pub version_refused : (words : List (List ℕ)) (asked : Asked) (before after : Option (List ℕ)) (r : Result Answered ZarrsFault) → AskFor words asked → asked ≡ Version
    → IfErr r IsOfWriter → IfErr r (RefusesAsked words before after)
version_refused words asked before after r are is =
    err_weaker r (λ fault failed. of_writer (RefusesAsked words before after) fault (inr (inl (subst (AskFor words) is are))) (inr (inl (subst (AskFor words) is are))) failed)

-- no wrong words are refused of a source
no_usage : (request : Request) (source path : List ℕ) (before after : Option (List ℕ)) → RefusesRequest request source path before after Usage → ⊥
no_usage (Look word) source path before after =
    ⊎_elim (λ image. ⊎_elim (λ none. none) (λ why. why.1.2) image.1) (λ folder. ⊎_elim (λ none. none) (λ why. why.1) folder.1)
no_usage (Change options) source path before after = ⊎_elim (λ none. none) (λ why. why.2.1)

-- a fault that refuses the source that the words name refuses the words
command_fault : (words : List (List ℕ)) (command : Command) (before after : Option (List ℕ)) → AskFor words (Store command)
    → (fault : ZarrsFault) → RefusesRequest command.request command.source.now (with_leading_slash command.path.now) before after fault → RefusesAsked words before after fault
command_fault words command before after are Usage refused = absurd (no_usage command.request command.source.now (with_leading_slash command.path.now) before after refused)
command_fault words command before after are Write refused = inr (inr (command.request, command.source.now, command.path.now, are, refused))
command_fault words command before after are Closed refused = inr (inr (command.request, command.source.now, command.path.now, are, refused))
command_fault words command before after are (Load e) refused = (command.request, command.source.now, command.path.now, are, refused)
command_fault words command before after are (Folder e) refused = (command.request, command.source.now, command.path.now, are, refused)
command_fault words command before after are (Node e) refused = (command.request, command.source.now, command.path.now, are, refused)
command_fault words command before after are TooDeep refused = (command.request, command.source.now, command.path.now, are, refused)
command_fault words command before after are (Consolidate e) refused = (command.request, command.source.now, command.path.now, are, refused)
command_fault words command before after are (Replace e) refused = (command.request, command.source.now, command.path.now, are, refused)
command_fault words command before after are OutOfMemory refused = (command.request, command.source.now, command.path.now, are, refused)

-- what is written from a path on is written from one that is the same
pub written_at : (request : Request) (source p q : List ℕ) (left old new : Option (List ℕ)) (r : Result Answered ZarrsFault) → p ≡ q
    → IfOk r (WritesRequest request source p left old new) → IfOk r (WritesRequest request source q left old new)
written_at request source p q left old new r same = subst (λ x. IfOk r (WritesRequest request source x left old new)) same

-- and what is refused
pub refused_at : (request : Request) (source p q : List ℕ) (before after : Option (List ℕ)) (r : Result Answered ZarrsFault) → p ≡ q
    → IfErr r (RefusesRequest request source p before after) → IfErr r (RefusesRequest request source q before after)
refused_at request source p q before after r same = subst (λ x. IfErr r (RefusesRequest request source x before after)) same

-- what is said of a path is said of one that is the same
pub said_at : (P : List ℕ → List ℕ → Type 0) (p q : List ℕ) (hint : Option (String Global)) → p ≡ q
    → IfSome hint (λ text. P p (string_bytes text)) → IfSome hint (λ text. P q (string_bytes text))
said_at P p q hint same = subst (λ x. IfSome hint (λ text. P x (string_bytes text))) same

-- what refuses the source that the words name refuses them
pub command_refused : (words : List (List ℕ)) (command : Command) (before after : Option (List ℕ)) (r : Result Answered ZarrsFault) → AskFor words (Store command)
    → IfErr r (RefusesRequest command.request command.source.now (with_leading_slash command.path.now) before after) → IfErr r (RefusesAsked words before after)
command_refused words command before after r are = err_weaker r (command_fault words command before after are)

-- ---- the status

-- the status of a count is not 2
not_two : (b : Bool) (n : ℕ) → n ≡ cond b 0 1 → n ≡ 2 → ⊥
not_two true n e two = omega (arith, e, two)
not_two false n e two = omega (arith, e, two)

-- the status of a run that ends well is not 2
tally_not_two : (tally : Option Tally) (n : ℕ) → n ≡ tally_status tally → n ≡ 2 → ⊥
tally_not_two None n e two = omega (arith, e, two)
tally_not_two (Some tally) n e two = not_two (tally.findings == 0) n e two

-- nor is that of any run that is not refused
answered_not_two : (end : Answered) (n : ℕ) → n ≡ answered_status end → n ≡ 2 → ⊥
answered_not_two (answered.Looked tally) n e two = tally_not_two tally n e two
answered_not_two (answered.Consolidated Complete) n e two = omega (arith, e, two)
answered_not_two (answered.Consolidated Due) n e two = omega (arith, e, two)

-- what is said of a name that is refused is a hint of the words
pub name_hinted : (words : List (List ℕ)) (command : Command) (fault : ZarrsFault) (hint : Option (String Global)) → AskFor words (Store command) → IsNameFault fault
    → IfSome hint (λ text. IsNameHint command.request (with_leading_slash command.path.now) fault (string_bytes text)) → IsHint words fault (option_map string_bytes hint)
name_hinted words command fault (Some text) are named says = (command.request, command.source.now, command.path.now, are, inr (named, says))
name_hinted words command fault None are named says = tt

-- what is said of the fault is said of the words, where the hint is theirs
said_of_words : (words : List (List ℕ)) (fault : ZarrsFault) (hint : Option (List ℕ)) (said : Result (Unit {0}) WriteFault) (before after : Option (List ℕ)) → IsHint words fault hint
    → OnOk said (SaysReason hint fault before after) → OnOk said (SaysRefusal words fault before after)
said_of_words words fault hint (Ok u) before after is says = (hint, is, says)
said_of_words words fault hint (Err e) before after is says = tt

-- the status 2 is that of a run that is refused, and why is said
pub refused_run : (words : List (List ℕ)) (outcome : Result Answered ZarrsFault) (P Q : ZarrsFault → Type 0) (n : ℕ) (hint : Option (List ℕ)) (said : Result (Unit {0}) WriteFault)
    (before after : Option (List ℕ)) → n ≡ run_status outcome → n ≡ 2 → IfErr outcome P → IfErr outcome Q → IfErr outcome (λ fault. IsHint words fault hint)
    → OnOk said (IfErr outcome (λ fault. SaysReason hint fault before after)) → (fault : ZarrsFault) × P fault × Q fault × OnOk said (SaysRefusal words fault before after)
refused_run words (Ok end) P Q n hint said before after e two p q is says = absurd (answered_not_two end n e two)
refused_run words (Err fault) P Q n hint said before after e two p q is says = (fault, p, q, said_of_words words fault hint said before after is says)

-- what was asked was written of words of a call
written_words : (words : List (List ℕ)) (left before after : Option (List ℕ)) (end : Answered) → WritesAsked words left before after end → AreWords words
written_words words left before after end h = ⊎_elim (λ w. inl w.0) (λ r. ⊎_elim (λ w. inr (inl w.0)) (λ w. inr (inr (w.0, w.1, w.2, w.3))) r) h

-- wrong words end with the status of a refusal
pub usage_run : (words : List (List ℕ)) (left before after : Option (List ℕ)) (outcome : Result Answered ZarrsFault) (n : ℕ)
    → n ≡ run_status outcome → IfOk outcome (WritesAsked words left before after) → (AreWords words → ⊥) → n ≡ 2
usage_run words left before after (Ok end) n e ok none = absurd (none (written_words words left before after end ok))
usage_run words left before after (Err fault) n e ok none = e

-- a status other than 2 is that of a run that is not refused, and what was asked was written
pub answered_run : (words : List (List ℕ)) (left before after : Option (List ℕ)) (outcome : Result Answered ZarrsFault) (n status : ℕ) → (status ≡ 2 → ⊥)
    → n ≡ run_status outcome → n ≡ status → IfOk outcome (WritesAsked words left before after)
    → (end : Answered) × (answered_status end ≡ status) × WritesAsked words left before after end
answered_run words left before after (Ok end) n status other e same writes = (end, sym e ∙ same, writes)
answered_run words left before after (Err fault) n status other e same writes = absurd (other (sym same ∙ e))

-- the status of a count is 0 or 1
count_statuses : (b : Bool) (n : ℕ) → n ≡ cond b 0 1 → (n ≡ 0) ⊎ (n ≡ 1) ⊎ (n ≡ 2)
count_statuses true n e = inl e
count_statuses false n e = inr (inl e)

-- so is that of what was looked at
tally_statuses : (tally : Option Tally) (n : ℕ) → n ≡ tally_status tally → (n ≡ 0) ⊎ (n ≡ 1) ⊎ (n ≡ 2)
tally_statuses None n e = inl e
tally_statuses (Some tally) n e = count_statuses (tally.findings == 0) n e

-- and that of a run is one of three
pub run_statuses : (outcome : Result Answered ZarrsFault) (n : ℕ) → n ≡ run_status outcome → (n ≡ 0) ⊎ (n ≡ 1) ⊎ (n ≡ 2)
run_statuses (Ok (answered.Looked tally)) n e = tally_statuses tally n e
run_statuses (Ok (answered.Consolidated Complete)) n e = inl e
run_statuses (Ok (answered.Consolidated Due)) n e = inr (inl e)
run_statuses (Err fault) n e = inr (inr e)

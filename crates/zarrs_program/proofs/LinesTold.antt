-- The lines that are told.
use Rattle.std.proofs.Common.{ℕ, List, [], ◌∷◌, ◌++◌, codes, Option, Some, None, subst}
use Rattle.std.specs.Prelude.{IfSome}
use Rattle.std.specs.Fmt.{option_append, with_newline}
use Rattle.std.specs.Io.KnownBytes.{Appends}
use Rattle.std.proofs.lemmas.List.{append_assoc}
use Rattle.zarrs_program.specs.Lines.{text_line, told_line}

module _ (before after : Option (List ℕ)) where
  -- the name, a colon, a space, what there is to tell and a newline are the line that tells it
  pub told : (program : List ℕ) (what : Option (List ℕ)) → IfSome (with_newline (option_append (Some program) (option_append (Some (codes ": ")) what))) (Appends before after) → IfSome what (λ text. Appends before after (told_line program text))
  told program None h = tt
  told program (Some text) h = subst (Appends before after) (append_assoc program (codes ": " ++ text) (10 ∷ [])) h

  -- what there is to tell and a newline are its line
  pub lined : (what : Option (List ℕ)) → IfSome (with_newline what) (Appends before after) → IfSome what (λ text. Appends before after (text_line text))
  lined None h = tt
  lined (Some text) h = h

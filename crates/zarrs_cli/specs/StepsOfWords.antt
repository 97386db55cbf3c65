-- Steps of reading the words of a call; no public contract rests on them.
use Rattle.std.specs.Prelude.{◌≡◌, ◌⊎◌, ℕ, List}
use Rattle.zarrs_cli.specs.Words.{request_words, request_turned}
use Rattle.zarrs_cli.specs.declared.words.Request.{Request}

-- the words are those of a request, with its options in either order
abbrev pub Spells : Request → List (List ℕ) → Type 0
Spells request words = (request_words request ≡ words) ⊎ (request_turned request ≡ words)

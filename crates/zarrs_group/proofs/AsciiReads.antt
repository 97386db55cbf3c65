-- What is written of a tree is read in ASCII as the tree.
use Rattle.std.proofs.Common.{◌≡◌, ℕ, zero, suc, ◌+◌, ◌*◌, ◌<◌, ◌≤◌, List, [], ◌∷◌, ◌++◌, Bool, true, false, cond, ◌&&◌, ◌||◌}
use Rattle.std.proofs.Common.{◌==◌, Option, Some, None, option_and_then, drop, replicate, refl, sym, ap, ap₂, ◌∙◌, subst, arith}
use Rattle.std.proofs.Common.{inl, inr, IsUtf8, append_assoc}
use Rattle.std.proofs.lemmas.Bool.{true≢false, and_parts, and_from, cases_Bool, or_cases, cases_lt, lt-ltb, leb-true, eqb-true, ne_eqb}
use Rattle.std.proofs.lemmas.Str.{is_utf8-from_IsUtf8}
use Rattle.std.specs.Str.{chars}
use Rattle.std.specs.List.{prefix_len}
use Rattle.std.specs.Char.{is_ascii_digit}
use Rattle.json.specs.Token.{Token, begin_object, end_object, begin_array, end_array, key, string, number, boolean, null, bad}
use Rattle.json.specs.Word.{head, ends_word, is_operator, is_space, word}
use Rattle.json.specs.Word.{after_digits, after_minus, after_sign, after_whole, after_fraction, after_exponent, after_number}
use Rattle.json.specs.Lex.{Lexeme, token, comma, colon, string_token, lex, between, fresh, punctuate, tokens}
use Rattle.json.specs.Print.{escape, quoted, token_text, begins, ends, separator, IsPrintable, ArePrintable, ArePrintableOrBad, IsNumber}
use Rattle.json.specs.Layout.{Last, nothing, bracket, name, value, is_value, line, gap, depth_at, step, piece, pretty_from}
use Rattle.json.specs.Json as json
use Rattle.json.specs.Tree.{json_tokens, items_tokens, members_tokens, HasNumbers, ItemsHaveNumbers, MembersHaveNumbers}
use Rattle.json.proofs.Numbered.{ArePrintableOrBad-tokens}
use Rattle.json.proofs.Printed.Strings.{content-escape, lex-escape}
use Rattle.json.proofs.Printed.Numbers.{lex-number, in_word-ended}
use Rattle.json.proofs.Printed.Trees.{ArePrintable-json_tokens}
use Rattle.json.proofs.Printed.Utf8.{are_ascii, IsUtf8-are_ascii}
use Rattle.serde_json.specs.Data.{Data}
use Rattle.zarrs_form.specs.Documents.{json_of}
use Rattle.zarrs_form.specs.DocumentTexts.{IsTextOf}
use Rattle.zarrs_group.specs.AsciiTexts.{ascii_text}
use Rattle.zarrs_group.proofs.AsciiBytes.{ascii_text-first, ascii_text-front, ascii_text_is_ascii, utf8_past_byte, utf8_past_front}
use Rattle.zarrs_group.proofs.AsciiStrings.{reads_string}

-- ---- a number is ASCII

-- a text is ASCII where what is left of it is
abbrev Back : List ℕ → Option (List ℕ) → Type 0
Back t None = Unit {0}
Back t (Some r) = are_ascii r ≡ true → are_ascii t ≡ true

-- one part before another
back_before : (t u : List ℕ) (o : Option (List ℕ)) → (are_ascii u ≡ true → are_ascii t ≡ true) → Back u o → Back t o
back_before t u None before h = tt
back_before t u (Some r) before h = λ e. before (h e)

-- one part after another
back_then : (t : List ℕ) (o : Option (List ℕ)) (f : List ℕ → Option (List ℕ)) → Back t o → ((r : List ℕ) → Back r (f r))
    → Back t (option_and_then f o)
back_then t None f h next = tt
back_then t (Some r) f h next = back_before t r (f r) h (next r)

-- one byte of ASCII
back_one : (t : List ℕ) → head t < 128 → are_ascii (drop 1 t) ≡ true → are_ascii t ≡ true
back_one [] small e = refl
back_one (x ∷ xs) small e = and_from _ _ (lt-ltb x 128 small) e

-- the first byte is this one
back_test : (t : List ℕ) (c : ℕ) → c < 128 → (head t == c) ≡ true → are_ascii (drop 1 t) ≡ true → are_ascii t ≡ true
back_test t c small is = back_one t (subst (λ n. n < 128) (sym (eqb-true (head t) c is)) small)

-- a digit before others
back_digit : (b : Bool) (x n : ℕ) (xs : List ℕ) → (b ≡ true → x < 128) → (are_ascii (drop n xs) ≡ true → are_ascii xs ≡ true)
    → are_ascii (drop (cond b (1 + n) 0) (x ∷ xs)) ≡ true → are_ascii (x ∷ xs) ≡ true
back_digit false x n xs small more e = e
back_digit true x n xs small more e =
    let next : 1 + n ≡ suc n = omega arith in
    and_from _ _ (lt-ltb x 128 (small refl)) (more (subst (λ k. are_ascii (drop k (x ∷ xs)) ≡ true) next e))

-- a digit is ASCII
digit_small : (x : ℕ) → is_ascii_digit x ≡ true → x < 128
digit_small x is = omega (arith, leb-true x 57 (and_parts _ _ is).1)

-- digits
back_run : (t : List ℕ) → are_ascii (drop (prefix_len is_ascii_digit t) t) ≡ true → are_ascii t ≡ true
back_run [] e = refl
back_run (x ∷ xs) e = back_digit (is_ascii_digit x) x (prefix_len is_ascii_digit xs) xs (digit_small x) (back_run xs) e

back_unless : (b : Bool) (t r : List ℕ) → (are_ascii r ≡ true → are_ascii t ≡ true) → Back t (cond b None (Some r))
back_unless true t r h = tt
back_unless false t r h = h

back_digits : (t : List ℕ) → Back t (after_digits t)
back_digits t = back_unless (prefix_len is_ascii_digit t == 0) t (drop (prefix_len is_ascii_digit t) t) (back_run t)

-- the parts of a number
back_whole : (t : List ℕ) → Back t (after_whole t)
back_whole t = elim (cases_Bool (head t == 48)) [
  | inl is ↦ rw (is) (back_test t 48 (omega arith) is)
  | inr not ↦ rw (not) (back_digits t)
]

back_fraction : (t : List ℕ) → Back t (after_fraction t)
back_fraction t = elim (cases_Bool (head t == 46)) [
  | inl is ↦ rw (is) (back_before t (drop 1 t) (after_digits (drop 1 t)) (back_test t 46 (omega arith) is) (back_digits (drop 1 t)))
  | inr not ↦ rw (not) (λ e. e)
]

-- the first byte is one of two
back_either : (t : List ℕ) (a b : ℕ) → a < 128 → b < 128 → ((head t == a) || (head t == b)) ≡ true
    → are_ascii (drop 1 t) ≡ true → are_ascii t ≡ true
back_either t a b a_small b_small is = elim (or_cases (head t == a) (head t == b) is) [
  | inl first ↦ back_test t a a_small first
  | inr second ↦ back_test t b b_small second
]

back_sign : (t : List ℕ) → are_ascii (after_sign t) ≡ true → are_ascii t ≡ true
back_sign t = elim (cases_Bool ((head t == 45) || (head t == 43))) [
  | inl is ↦ rw (is) (back_either t 45 43 (omega arith) (omega arith) is)
  | inr not ↦ rw (not) (λ e. e)
]

back_minus : (t : List ℕ) → are_ascii (after_minus t) ≡ true → are_ascii t ≡ true
back_minus t = elim (cases_Bool (head t == 45)) [
  | inl is ↦ rw (is) (back_test t 45 (omega arith) is)
  | inr not ↦ rw (not) (λ e. e)
]

back_exponent : (t : List ℕ) → Back t (after_exponent t)
back_exponent t = elim (cases_Bool ((head t == 101) || (head t == 69))) [
  | inl is ↦
      let before = λ (e : are_ascii (after_sign (drop 1 t)) ≡ true).
      back_either t 101 69 (omega arith) (omega arith) is (back_sign (drop 1 t) e) in
      rw (is) (back_before t (after_sign (drop 1 t)) _ before (back_digits (after_sign (drop 1 t))))
  | inr not ↦ rw (not) (λ e. e)
]

back_number : (t : List ℕ) → Back t (after_number t)
unfolding after_number
back_number t =
    back_before t (after_minus t) _ (back_minus t)
    (back_then (after_minus t) (option_and_then after_fraction (after_whole (after_minus t))) after_exponent
    (back_then (after_minus t) (after_whole (after_minus t)) after_fraction (back_whole (after_minus t)) back_fraction) back_exponent)

number_is_ascii : (s : List ℕ) → IsNumber s → are_ascii s ≡ true
number_is_ascii s is = subst (Back s) is (back_number s) refl

-- ---- the tokens that are read can be printed

-- tokens in two parts
parts_printable : (ts us : List Token) → ArePrintableOrBad (ts ++ us) → ArePrintableOrBad ts × ArePrintableOrBad us
parts_printable [] us h = (tt, h)
parts_printable (t ∷ ts) us h = let p = parts_printable ts us h.1 in ((h.0, p.0), p.1)

-- the numbers among the tokens of a tree are numbers where each token can be printed or is `bad`, which none of them is
mutual
  has_numbers : (j : json.Json) → ArePrintableOrBad (json_tokens j) → HasNumbers j
  has_numbers json.null h = tt
  has_numbers (json.boolean b) h = tt
  has_numbers (json.number s) h = h.0
  has_numbers (json.string s) h = tt
  has_numbers (json.array js) h = items_have_numbers js h.1
  has_numbers (json.object ms) h = members_have_numbers ms h.1

  items_have_numbers : (js : json.Items) → ArePrintableOrBad (items_tokens js) → ItemsHaveNumbers js
  items_have_numbers json.no_items h = tt
  items_have_numbers (json.item j js) h =
      let p = parts_printable (json_tokens j) (items_tokens js) h in
      (has_numbers j p.0, items_have_numbers js p.1)

  members_have_numbers : (ms : json.Members) → ArePrintableOrBad (members_tokens ms) → MembersHaveNumbers ms
  members_have_numbers json.no_members h = tt
  members_have_numbers (json.member k j ms) h =
      let p = parts_printable (json_tokens j) (members_tokens ms) h.1 in
      (has_numbers j p.0, members_have_numbers ms p.1)

-- ---- a text in ASCII has the lexemes of the text

-- a text that is UTF-8 has the same lexemes in ASCII
abbrev HasSameLexemes : List ℕ → Type 0
HasSameLexemes text = IsUtf8 text → lex between (ascii_text text) ≡ lex between text

-- a byte of ASCII that is a lexeme or none
record IsSingle (x : ℕ) : Type 0 where
  small : x < 128
  lexemes : List Lexeme
  lexed : (r : List ℕ) → lex between (x ∷ r) ≡ lexemes ++ lex between r

-- such bytes
abbrev AreSingle : List ℕ → Type 0
AreSingle [] = Unit {0}
AreSingle (x ∷ xs) = IsSingle x × AreSingle xs

space_is : IsSingle 32
unfolding lex
space_is = record { small = omega arith; lexemes = []; lexed = λ r. refl }

line_feed_is : IsSingle 10
unfolding lex
line_feed_is = record { small = omega arith; lexemes = []; lexed = λ r. refl }

comma_is : IsSingle 44
unfolding lex
comma_is = record { small = omega arith; lexemes = comma ∷ []; lexed = λ r. refl }

colon_is : IsSingle 58
unfolding lex
colon_is = record { small = omega arith; lexemes = colon ∷ []; lexed = λ r. refl }

open_brace_is : IsSingle 123
unfolding lex
open_brace_is = record { small = omega arith; lexemes = token begin_object ∷ []; lexed = λ r. refl }

close_brace_is : IsSingle 125
unfolding lex
close_brace_is = record { small = omega arith; lexemes = token end_object ∷ []; lexed = λ r. refl }

open_bracket_is : IsSingle 91
unfolding lex
open_bracket_is = record { small = omega arith; lexemes = token begin_array ∷ []; lexed = λ r. refl }

close_bracket_is : IsSingle 93
unfolding lex
close_bracket_is = record { small = omega arith; lexemes = token end_array ∷ []; lexed = λ r. refl }

-- such a byte in front
same_single : (x : ℕ) (r : List ℕ) → IsSingle x → HasSameLexemes r → HasSameLexemes (x ∷ r)
same_single x r single same utf8 =
    ap (lex between) (ascii_text-first x r single.small) ∙ single.lexed (ascii_text r)
    ∙ ap (λ l. single.lexemes ++ l) (same (utf8_past_byte x r single.small utf8)) ∙ sym (single.lexed r)

-- such bytes in front
same_singles : (xs r : List ℕ) → AreSingle xs → HasSameLexemes r → HasSameLexemes (xs ++ r)
same_singles [] r singles same = same
same_singles (x ∷ xs) r singles same = same_single x (xs ++ r) singles.0 (same_singles xs r singles.1 same)

-- a separator
separator_is : (b : Bool) → AreSingle (cond b (44 ∷ []) [])
separator_is true = (comma_is, tt)
separator_is false = tt

-- a gap
spaces_are : (n : ℕ) → AreSingle (replicate n 32)
spaces_are zero = tt
spaces_are (suc n) = (space_is, spaces_are n)

bracket_gap_is : (b : Bool) (depth : ℕ) → AreSingle (cond b (line depth) [])
bracket_gap_is true depth = (line_feed_is, spaces_are (2 * depth))
bracket_gap_is false depth = tt

gap_is : (last : Last) (opens : Bool) (depth : ℕ) → AreSingle (gap last opens depth)
gap_is nothing opens depth = tt
gap_is bracket opens depth = bracket_gap_is opens depth
gap_is name opens depth = (space_is, tt)
gap_is value opens depth = (line_feed_is, spaces_are (2 * depth))

-- a string in front
same_string : (s r : List ℕ) → HasSameLexemes r → HasSameLexemes (quoted s ++ r)
unfolding lex
same_string s r same utf8 =
    let text = escape s ++ 34 ∷ r in
    let whole : quoted s ++ r ≡ 34 ∷ text = ap (λ l. 34 ∷ l) (append_assoc (escape s) (34 ∷ []) r) in
    let reads = reads_string s r (utf8_past_byte 34 text (omega arith) (subst IsUtf8 whole utf8)) in
    let ascii = ap (λ l. lex between (ascii_text l)) whole ∙ ap (lex between) (ascii_text-first 34 text (omega arith)) in
    ascii ∙ ap₂ (λ o l. token (string_token o) ∷ l) reads.read (reads.passed ∙ same reads.utf8)
    ∙ sym (ap (lex between) whole ∙ ap₂ (λ o l. token (string_token o) ∷ l) (content-escape s r) (lex-escape s r))

-- a byte beyond ASCII ends no word
no_end : (x : ℕ) → 128 ≤ x → (is_operator x || is_space x) ≡ false
no_end x big =
    rw (
      ne_eqb x 123 (λ e. omega arith),
      ne_eqb x 125 (λ e. omega arith),
      ne_eqb x 91 (λ e. omega arith),
      ne_eqb x 93 (λ e. omega arith),
      ne_eqb x 58 (λ e. omega arith),
      ne_eqb x 44 (λ e. omega arith),
      ne_eqb x 32 (λ e. omega arith),
      ne_eqb x 9 (λ e. omega arith),
      ne_eqb x 10 (λ e. omega arith),
      ne_eqb x 13 (λ e. omega arith),
    ) refl

-- a word ends in ASCII where it ends
still_ends : (r : List ℕ) → ends_word r ≡ true → ends_word (ascii_text r) ≡ true
unfolding chars
still_ends [] ended = refl
still_ends (x ∷ r) ended = elim (cases_lt x 128) [
  | inl small ↦ ap ends_word (ascii_text-first x r small) ∙ ended
  | inr big ↦ absurd (true≢false (sym ended ∙ no_end x big))
]

-- a word in front: bytes of ASCII that are this lexeme before what ends a word
same_word : (w r : List ℕ) (l : Lexeme) → are_ascii w ≡ true
    → ((t : List ℕ) → ends_word t ≡ true → lex between (w ++ t) ≡ l ∷ lex between t) → ends_word r ≡ true → HasSameLexemes r → HasSameLexemes (w ++ r)
same_word w r l small lexed ended same utf8 =
    ap (lex between) (ascii_text-front w r small) ∙ lexed (ascii_text r) (still_ends r ended)
    ∙ ap (λ ls. l ∷ ls) (same (utf8_past_front w r small utf8)) ∙ sym (lexed r ended)

-- the three words that are no numbers
true_lexed : (t : List ℕ) → ends_word t ≡ true → lex between (token_text (boolean true) ++ t) ≡ token (boolean true) ∷ lex between t
unfolding lex word
true_lexed t ended = ap₂ (λ b l. token (cond b (boolean true) bad) ∷ l) ended (in_word-ended t ended)

false_lexed : (t : List ℕ) → ends_word t ≡ true → lex between (token_text (boolean false) ++ t) ≡ token (boolean false) ∷ lex between t
unfolding lex word
false_lexed t ended = ap₂ (λ b l. token (cond b (boolean false) bad) ∷ l) ended (in_word-ended t ended)

null_lexed : (t : List ℕ) → ends_word t ≡ true → lex between (token_text null ++ t) ≡ token null ∷ lex between t
unfolding lex word
null_lexed t ended = ap₂ (λ b l. token (cond b null bad) ∷ l) ended (in_word-ended t ended)

-- a key in front
same_key : (s r : List ℕ) → HasSameLexemes r → HasSameLexemes (token_text (key s) ++ r)
same_key s r same utf8 =
    let whole : token_text (key s) ++ r ≡ quoted s ++ 58 ∷ r = append_assoc (quoted s) (58 ∷ []) r in
    subst HasSameLexemes (sym whole) (same_string s (58 ∷ r) (same_single 58 r colon_is same)) utf8

-- a token in front
same_token : (t : Token) (r : List ℕ) → IsPrintable t → (ends t ≡ true → ends_word r ≡ true) → HasSameLexemes r → HasSameLexemes (token_text t ++ r)
same_token begin_object r h ended same = same_single 123 r open_brace_is same
same_token end_object r h ended same = same_single 125 r close_brace_is same
same_token begin_array r h ended same = same_single 91 r open_bracket_is same
same_token end_array r h ended same = same_single 93 r close_bracket_is same
same_token (key s) r h ended same = same_key s r same
same_token (string s) r h ended same = same_string s r same
same_token (number s) r h ended same =
    same_word s r (token (number s)) (number_is_ascii s h) (λ t e. lex-number s t h e) (ended refl) same
same_token (boolean true) r h ended same = same_word (token_text (boolean true)) r (token (boolean true)) refl true_lexed (ended refl) same
same_token (boolean false) r h ended same = same_word (token_text (boolean false)) r (token (boolean false)) refl false_lexed (ended refl) same
same_token null r h ended same = same_word (token_text null) r (token null) refl null_lexed (ended refl) same
same_token bad r h ended same = absurd h

-- after a value stands a comma, a line or nothing
value_ends : (depth : ℕ) (ts : List Token) → ends_word (pretty_from (value, depth) ts) ≡ true
unfolding pretty_from
value_ends depth [] = refl
value_ends depth (begin_object ∷ ts) = refl
value_ends depth (end_object ∷ ts) = refl
value_ends depth (begin_array ∷ ts) = refl
value_ends depth (end_array ∷ ts) = refl
value_ends depth (key s ∷ ts) = refl
value_ends depth (string s ∷ ts) = refl
value_ends depth (number s ∷ ts) = refl
value_ends depth (boolean b ∷ ts) = refl
value_ends depth (null ∷ ts) = refl
value_ends depth (bad ∷ ts) = refl

-- what follows a token that ends a value ends a word
token_ends : (s : Last × ℕ) (t : Token) (ts : List Token) → ends t ≡ true → ends_word (pretty_from (step s t) ts) ≡ true
token_ends s begin_object ts ends_value = absurd (true≢false (sym ends_value))
token_ends s end_object ts ends_value = value_ends _ ts
token_ends s begin_array ts ends_value = absurd (true≢false (sym ends_value))
token_ends s end_array ts ends_value = value_ends _ ts
token_ends s (key k) ts ends_value = absurd (true≢false (sym ends_value))
token_ends s (string k) ts ends_value = value_ends _ ts
token_ends s (number k) ts ends_value = value_ends _ ts
token_ends s (boolean b) ts ends_value = value_ends _ ts
token_ends s null ts ends_value = value_ends _ ts
token_ends s bad ts ends_value = value_ends _ ts

-- tokens in the pretty layout
same_pretty : (s : Last × ℕ) (ts : List Token) → ArePrintable ts → HasSameLexemes (pretty_from s ts)
unfolding pretty_from ArePrintable chars
same_pretty s [] h = λ utf8. refl
same_pretty s (t ∷ ts) h =
    let rest = pretty_from (step s t) ts in
    let before = gap s.0 (begins t) (depth_at s.1 t) in
    let comma_or_none = separator (is_value s.0) t in
    let whole : piece s t ++ rest ≡ comma_or_none ++ (before ++ (token_text t ++ rest)) =
    append_assoc comma_or_none (before ++ token_text t) rest ∙ ap (λ l. comma_or_none ++ l) (append_assoc before (token_text t) rest) in
    let same = same_token t rest h.0 (token_ends s t ts) (same_pretty (step s t) ts h.1) in
    let spaced = same_singles before _ (gap_is s.0 (begins t) (depth_at s.1 t)) same in
    subst HasSameLexemes (sym whole) (same_singles comma_or_none _ (separator_is (is_value s.0 && begins t)) spaced)

-- ---- what is written of a tree, in ASCII

-- the tokens of a tree can be printed
tokens_are_printable : (text : List ℕ) (j : json.Json) → tokens text ≡ json_tokens j → ArePrintable (tokens text)
tokens_are_printable text j is =
    let printable = has_numbers j (subst ArePrintableOrBad is (ArePrintableOrBad-tokens text)) in
    subst ArePrintable (sym is) (ArePrintable-json_tokens j printable)

-- it has the tokens of the text
same_tokens : (text : List ℕ) (d : Data) → IsTextOf text d → tokens (ascii_text text) ≡ tokens text
same_tokens text d written =
    let printable = tokens_are_printable text written.order.0 written.order.1 in
    let same = subst HasSameLexemes (sym written.layout) (same_pretty (nothing, 0) (tokens text) printable) in
    ap (punctuate fresh) (same written.utf8)

-- it is read as the tree
pub ascii_text_reads : (text : List ℕ) (d : Data) → IsTextOf text d → json_of (ascii_text text) ≡ Some d
unfolding json_of
ascii_text_reads text d written =
    let ascii = is_utf8-from_IsUtf8 (ascii_text text) (IsUtf8-are_ascii (ascii_text text) (ascii_text_is_ascii text)) in
    let utf8 = is_utf8-from_IsUtf8 text written.utf8 in
    rw (ascii, same_tokens text d written) (rw utf8 at written.reads)

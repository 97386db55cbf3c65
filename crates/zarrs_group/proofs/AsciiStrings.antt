-- A string of JSON in ASCII is read as the string.
use Rattle.std.proofs.Common.{◌≡◌, ℕ, zero, suc, ◌+◌, ◌-◌, ◌*◌, ◌/◌, ◌%◌, ◌<◌, ◌≤◌, List, [], ◌∷◌, ◌++◌, Bool, true, false, cond}
use Rattle.std.proofs.Common.{length, length-append, Some, refl, sym, ap, ap₂, ◌∙◌, subst, arith, inl, inr, ◌⊎◌, ltb-true, IsUtf8, append_assoc}
use Rattle.std.proofs.lemmas.Bool.{and_parts, and_from, cases_lt, cases_eq, lt-ltb, le-ltb, le-leb, ne_eqb}
use Rattle.std.proofs.lemmas.Str.{encode_ascii, byte_from_char, digit_value-digit_char, length-encode, len_utf8_bounds}
use Rattle.std.specs.Char.{digit_char, digit_value}
use Rattle.std.specs.Char.Escape.{hex_digit_at}
use Rattle.json.specs.Text.{content, plain, prepend, code_unit, short_escape, is_high_surrogate, is_low_surrogate, surrogate_pair}
use Rattle.json.specs.Word.{is_operator, is_space}
use Rattle.json.specs.Lex.{Lexeme, Mode, lex, lex_byte, between, in_string, operator, space, other}
use Rattle.json.specs.Print.{escape_byte, escape}
use Rattle.json.proofs.Printed.Strings.{escape_byte_plain}
use Rattle.json.proofs.Printed.Utf8.{are_ascii}
use Rattle.zarrs_group.specs.AsciiTexts.{ascii_char, ascii_text, unit_escape}
use Rattle.zarrs_group.proofs.AsciiBytes.{ascii_text-first, ascii_text-front, ascii_text-char}
use Rattle.zarrs_group.proofs.AsciiBytes.{utf8_past_byte, utf8_past_front, digit_range, below_16, unit_is_ascii}
use lib.Utf8.{encode, encodes, scalar, scalars, scalar_cases}

-- ---- the escape of a code unit

-- a hexadecimal digit is read as its value
digit_is : (n : ℕ) → digit_value (digit_char (n % 16)) ≡ n % 16
digit_is n = digit_value-digit_char (n % 16) (omega (arith, below_16 n))

-- four hexadecimal digits are read as the code unit
four_digits : (u : ℕ) → u < 65536
    → code_unit (hex_digit_at 4096 u) (hex_digit_at 256 u) (hex_digit_at 16 u) (hex_digit_at 1 u) ≡ Some u
unfolding code_unit
four_digits u small =
    let sum : u / 4096 % 16 * 4096 + u / 256 % 16 * 256 + u / 16 % 16 * 16 + u / 1 % 16 ≡ u = omega arith in
    rw (
      digit_is (u / 4096),
      digit_is (u / 256),
      digit_is (u / 16),
      digit_is (u / 1),
      lt-ltb _ 16 (below_16 (u / 4096)),
      lt-ltb _ 16 (below_16 (u / 256)),
      lt-ltb _ 16 (below_16 (u / 16)),
      lt-ltb _ 16 (below_16 (u / 1)),
    ) (ap Some sum)

-- the escape of a code unit that is no surrogate is read as its character
lone_unit : (u : ℕ) (r : List ℕ) → u < 65536 → is_high_surrogate u ≡ false → is_low_surrogate u ≡ false
    → content plain (unit_escape u ++ r) ≡ prepend (encode u) (content plain r)
unfolding content
lone_unit u r small high low = rw (four_digits u small, high, low) refl

-- the escapes of a pair of surrogates are read as its character
pair_of_units : (h l : ℕ) (r : List ℕ) → h < 65536 → l < 65536 → is_high_surrogate h ≡ true → is_low_surrogate l ≡ true
    → content plain (unit_escape h ++ (unit_escape l ++ r)) ≡ prepend (encode (surrogate_pair h l)) (content plain r)
unfolding content
pair_of_units h l r h_small l_small high low = rw (four_digits h h_small, high, four_digits l l_small, low) refl

-- a byte that is no quote and no backslash is passed in a string
inside : (o s : Bool) (x : ℕ) (r : List ℕ) (k : Mode → List Lexeme)
    → lex_byte in_string (cond o operator (cond s space other)) x r k ≡ k in_string
inside true s x r k = refl
inside false true x r k = refl
inside false false x r k = refl

plain_byte : (x : ℕ) (r : List ℕ) → (x ≡ 34 → ⊥) → (x ≡ 92 → ⊥) → lex in_string (x ∷ r) ≡ lex in_string r
unfolding lex
plain_byte x r q b = rw (ne_eqb x 34 q, ne_eqb x 92 b) (inside (is_operator x) (is_space x) x r (λ m. lex m r))

-- a hexadecimal digit is passed in a string
digit_passed : (n : ℕ) (r : List ℕ) → lex in_string (digit_char (n % 16) ∷ r) ≡ lex in_string r
digit_passed n r =
    let range = digit_range (n % 16) (below_16 n) in
    plain_byte (digit_char (n % 16)) r (λ e. omega arith) range.2

-- a backslash and the byte behind it are passed in a string
escape_passed : (x : ℕ) (r : List ℕ) → lex in_string (92 ∷ x ∷ r) ≡ lex in_string r
unfolding lex
escape_passed x r = refl

-- the escape of a code unit is passed in a string
unit_passed : (u : ℕ) (r : List ℕ) → lex in_string (unit_escape u ++ r) ≡ lex in_string r
unit_passed u r =
    escape_passed 117 _ ∙ digit_passed (u / 4096) _ ∙ digit_passed (u / 256) _ ∙ digit_passed (u / 16) _ ∙ digit_passed (u / 1) r

-- ---- a character beyond ASCII

-- what both readers make of the bytes, before any text: this character
record Spells (bytes : List ℕ) (c : ℕ) : Type 0 where
  read : (r : List ℕ) → content plain (bytes ++ r) ≡ prepend (encode c) (content plain r)
  passed : (r : List ℕ) → lex in_string (bytes ++ r) ≡ lex in_string r

-- one code unit
one_unit : (c : ℕ) → scalar c ≡ true → c < 65536 → Spells (unit_escape c ++ []) c
one_unit c is small =
    let none : (is_high_surrogate c ≡ false) × (is_low_surrogate c ≡ false) = elim (scalar_cases c is) [
      | inl low ↦ grind (arith, lt-ltb, le-leb, le-ltb)
      | inr high ↦ grind (arith, lt-ltb, le-leb, le-ltb)
    ] in
    record {
      read = λ r. lone_unit c r small none.0 none.1;
      passed = λ r. unit_passed c r;
    }

-- two code units, which are a pair of surrogates
two_units : (c h l : ℕ) → h < 1024 → l < 1024 → c ≡ 65536 + h * 1024 + l
    → Spells (unit_escape (55296 + h) ++ (unit_escape (56320 + l) ++ [])) c
two_units c h l h_small l_small is =
    let high : is_high_surrogate (55296 + h) ≡ true = and_from _ _ (le-leb 55296 (55296 + h) (omega arith)) (lt-ltb (55296 + h) 56320 (omega arith)) in
    let low : is_low_surrogate (56320 + l) ≡ true = and_from _ _ (le-leb 56320 (56320 + l) (omega arith)) (lt-ltb (56320 + l) 57344 (omega arith)) in
    let pair : surrogate_pair (55296 + h) (56320 + l) ≡ c = omega arith in
    record {
      read = λ r. pair_of_units (55296 + h) (56320 + l) r (omega arith) (omega arith) high low
          ∙ ap (λ p. prepend (encode p) (content plain r)) pair;
      passed = λ r. unit_passed (55296 + h) _ ∙ unit_passed (56320 + l) r;
    }

-- a scalar value has at most 21 bits
scalar_small : (c : ℕ) → scalar c ≡ true → c < 1114112
scalar_small c is = elim (scalar_cases c is) [ inl low ↦ omega arith | inr high ↦ omega arith ]

-- a character beyond ASCII, in ASCII
ascii_char_spells : (c : ℕ) → scalar c ≡ true → 128 ≤ c → Spells (ascii_char c) c
ascii_char_spells c is big = elim (cases_lt c 65536) [
  | inl small ↦ rw (le-ltb c 128 big, lt-ltb c 65536 small) (one_unit c is small)
  | inr wide ↦
      let small = scalar_small c is in
      rw (le-ltb c 128 big, le-ltb c 65536 wide)
      (two_units c ((c - 65536) / 1024) ((c - 65536) % 1024) (omega arith) (omega arith) (omega arith))
]

-- ---- a byte of ASCII in a string

-- what both readers make of the escape of a byte, before any text: this byte
record SpellsByte (x : ℕ) : Type 0 where
  read : (r : List ℕ) → content plain (escape_byte x ++ r) ≡ prepend (x ∷ []) (content plain r)
  passed : (r : List ℕ) → lex in_string (escape_byte x ++ r) ≡ lex in_string r
  ascii : are_ascii (escape_byte x) ≡ true
  some : 0 < length (escape_byte x)

-- P holds of each of these
abbrev Each : (ℕ → Type 0) → List ℕ → Type 0
Each P [] = Unit {0}
Each P (x ∷ xs) = P x × Each P xs

-- the bytes that have an escape of two bytes
short : Each SpellsByte (34 ∷ 92 ∷ 8 ∷ 9 ∷ 10 ∷ 12 ∷ 13 ∷ [])
unfolding escape_byte content lex short_escape
short = (
  record { read = λ r. refl; passed = λ r. refl; ascii = refl; some = omega arith },
  (
    record { read = λ r. refl; passed = λ r. refl; ascii = refl; some = omega arith },
    (
      record { read = λ r. refl; passed = λ r. refl; ascii = refl; some = omega arith },
      (
        record { read = λ r. refl; passed = λ r. refl; ascii = refl; some = omega arith },
        (
          record { read = λ r. refl; passed = λ r. refl; ascii = refl; some = omega arith },
          (
            record { read = λ r. refl; passed = λ r. refl; ascii = refl; some = omega arith },
            (record { read = λ r. refl; passed = λ r. refl; ascii = refl; some = omega arith }, tt),
          ),
        ),
      ),
    ),
  ),
)

-- the escape of a control character that has no short one is that of its code unit
control_escape : (x : ℕ) → x < 32
    → 92 ∷ 117 ∷ 48 ∷ 48 ∷ digit_char (x / 16) ∷ digit_char (x % 16) ∷ [] ≡ unit_escape x
control_escape x small =
    let first : 0 ≡ x / 4096 % 16 = omega arith in
    let second : 0 ≡ x / 256 % 16 = omega arith in
    let third : x / 16 ≡ x / 16 % 16 = omega arith in
    let fourth : x % 16 ≡ x / 1 % 16 = omega arith in
    λ i. 92 ∷ 117 ∷ digit_char (first i) ∷ digit_char (second i) ∷ digit_char (third i) ∷ digit_char (fourth i) ∷ []

-- P holds of x, or x is none of these
one_of : (P : ℕ → Type 0) (xs : List ℕ) (x : ℕ) → Each P xs → P x ⊎ Each (λ y. x ≡ y → ⊥) xs
one_of P [] x each = inr tt
one_of P (y ∷ ys) x each = elim (cases_eq x y) [
  | inl is ↦ inl (subst P (sym is) each.0)
  | inr not ↦ elim (one_of P ys x each.1) [ inl holds ↦ inl holds | inr nots ↦ inr (not, nots) ]
]

-- none of the bytes that have an escape of two bytes
abbrev HasNoShort : ℕ → Type 0
HasNoShort x = Each (λ y. x ≡ y → ⊥) (34 ∷ 92 ∷ 8 ∷ 9 ∷ 10 ∷ 12 ∷ 13 ∷ [])

-- the escape of another control character
control_byte : (x : ℕ) → x < 32 → HasNoShort x → escape_byte x ≡ unit_escape x
unfolding escape_byte
control_byte x small (a, (b, (c, (d, (e, (f, (g, h))))))) =
    rw (ne_eqb x 34 a, ne_eqb x 92 b, ne_eqb x 8 c, ne_eqb x 12 f, ne_eqb x 10 e, ne_eqb x 13 g, ne_eqb x 9 d, lt-ltb x 32 small)
    (control_escape x small)

-- a number below the surrogates is none
no_surrogate : (x : ℕ) → x < 55296 → (is_high_surrogate x ≡ false) × (is_low_surrogate x ≡ false)
no_surrogate x small = grind (arith, lt-ltb, le-leb, le-ltb)

-- another control character
other_control : (x : ℕ) → x < 32 → HasNoShort x → SpellsByte x
other_control x small not_short =
    let is = control_byte x small not_short in
    let none = no_surrogate x (omega arith) in
    record {
      read = λ r. rw (is) (lone_unit x r (omega arith) none.0 none.1)
          ∙ ap (λ bytes. prepend bytes (content plain r)) (encode_ascii x (omega arith));
      passed = λ r. rw (is) (unit_passed x r);
      ascii = rw (is) (unit_is_ascii x);
      some = rw (is) (omega arith);
    }

-- a byte that stands for itself
plain_one : (x : ℕ) → x < 128 → 32 ≤ x → HasNoShort x → SpellsByte x
unfolding content
plain_one x small big (quote, (backslash, rest)) =
    let is = escape_byte_plain x quote backslash big in
    record {
      read = λ r. rw (is, ne_eqb x 34 quote, ne_eqb x 92 backslash, le-ltb x 32 big) refl;
      passed = λ r. rw (is) (plain_byte x r quote backslash);
      ascii = rw (is) (and_from _ _ (lt-ltb x 128 small) refl);
      some = rw (is) (omega arith);
    }

-- a byte of ASCII
spells_byte : (x : ℕ) → x < 128 → SpellsByte x
spells_byte x small = elim (one_of SpellsByte (34 ∷ 92 ∷ 8 ∷ 9 ∷ 10 ∷ 12 ∷ 13 ∷ []) x short) [
  | inl holds ↦ holds
  | inr not_short ↦ elim (cases_lt x 32) [
    | inl low ↦ other_control x low not_short
    | inr high ↦ plain_one x small high not_short
  ]
]

-- ---- the content of a string

-- the first of some bytes of ASCII is ASCII
first_small : (xs r t : List ℕ) (b : ℕ) → are_ascii xs ≡ true → 0 < length xs → xs ++ r ≡ b ∷ t → b < 128
first_small [] r t b e some is = absurd (omega arith)
first_small (x ∷ xs) r t b e some is =
    let same : x ≡ b = cc in
    subst (λ n. n < 128) same (ltb-true _ _ (and_parts _ _ e).0)

-- all bytes are beyond ASCII
abbrev AreHigh : List ℕ → Type 0
AreHigh [] = Unit {0}
AreHigh (x ∷ xs) = (128 ≤ x) × AreHigh xs

-- a byte beyond ASCII is its own escape
high_alone : (x : ℕ) → 128 ≤ x → escape_byte x ≡ x ∷ []
high_alone x big = escape_byte_plain x (λ e. omega arith) (λ e. omega arith) (omega arith)

-- bytes beyond ASCII at the front of the escape of a string are bytes of the string
high_front : (e s r t : List ℕ) → AreHigh e → escape s ++ 34 ∷ t ≡ e ++ r
    → (rest : List ℕ) × (s ≡ e ++ rest) × (r ≡ escape rest ++ 34 ∷ t)
high_front [] s r t high is = (s, refl, sym is)
high_front (b ∷ e) [] r t high is =
    let same : 34 ≡ b = cc in
    absurd (omega (arith, high.0))
high_front (b ∷ e) (y ∷ s) r t high is = elim (cases_lt y 128) [
  | inl small ↦
      let spelled = spells_byte y small in
      let whole : escape_byte y ++ (escape s ++ 34 ∷ t) ≡ b ∷ (e ++ r) = sym (append_assoc (escape_byte y) (escape s) (34 ∷ t)) ∙ is in
      let low : b < 128 = first_small (escape_byte y) _ _ b spelled.ascii spelled.some whole in
      absurd (omega (arith, high.0))
  | inr big ↦
      let whole : y ∷ (escape s ++ 34 ∷ t) ≡ b ∷ (e ++ r) = ap (λ l. (l ++ escape s) ++ 34 ∷ t) (sym (high_alone y big)) ∙ is in
      let same : y ≡ b = cc in
      let others : escape s ++ 34 ∷ t ≡ e ++ r = cc in
      let more = high_front e s r t high.1 others in
      (more.0, ap₂ (λ (h : ℕ) (l : List ℕ). h ∷ l) same more.1, more.2)
]

-- the bytes of a character beyond ASCII are beyond ASCII
high_char : (c : ℕ) → 128 ≤ c → AreHigh (encode c)
unfolding encode
high_char c big = elim (cases_lt c 2048) [
  | inl two ↦ rw (le-ltb c 128 big, lt-ltb c 2048 two) (omega arith, (omega arith, tt))
  | inr more ↦ elim (cases_lt c 65536) [
    | inl three ↦ rw (le-ltb c 128 big, le-ltb c 2048 more, lt-ltb c 65536 three) (omega arith, (omega arith, (omega arith, tt)))
    | inr four ↦
        rw (le-ltb c 128 big, le-ltb c 2048 more, le-ltb c 65536 four)
        (omega arith, (omega arith, (omega arith, (omega arith, tt))))
  ]
]

-- a text of UTF-8 that has a byte begins with a character
record Begins (text : List ℕ) : Type 0 where
  char : ℕ
  rest : List ℕ
  scalar : scalar char ≡ true
  is : text ≡ encode char ++ rest
  utf8 : IsUtf8 rest

begins : (x : ℕ) (r cs : List ℕ) → scalars cs ≡ true → encodes cs ≡ x ∷ r → Begins (x ∷ r)
begins x r [] ok is = cc
begins x r (c ∷ cs) ok is =
    let p = and_parts _ _ ok in
    record { char = c; rest = encodes cs; scalar = p.0; is = sym is; utf8 = (cs, (p.1, refl)) }

-- a string up to its closing quote and what follows, in ASCII: both readers read the string, and what follows is UTF-8
pub record ReadsString (s t : List ℕ) : Type 0 where
  pub utf8 : IsUtf8 t
  pub read : content plain (ascii_text (escape s ++ 34 ∷ t)) ≡ Some s
  pub passed : lex in_string (ascii_text (escape s ++ 34 ∷ t)) ≡ lex between (ascii_text t)

-- the empty string
empty_string : (t : List ℕ) → IsUtf8 (34 ∷ t) → ReadsString [] t
unfolding content lex
empty_string t utf8 =
    let first = ascii_text-first 34 t (omega arith) in
    record {
      utf8 = utf8_past_byte 34 t (omega arith) utf8;
      read = ap (content plain) first;
      passed = ap (lex in_string) first;
    }

-- a byte of ASCII and a string
byte_more : (x : ℕ) (s t : List ℕ) → x < 128 → ReadsString s t → ReadsString (x ∷ s) t
byte_more x s t small more =
    let spelled = spells_byte x small in
    let parts = ap ascii_text (append_assoc (escape_byte x) (escape s) (34 ∷ t)) ∙ ascii_text-front (escape_byte x) (escape s ++ 34 ∷ t) spelled.ascii in
    record {
      utf8 = more.utf8;
      read = ap (content plain) parts ∙ spelled.read _ ∙ ap (prepend (x ∷ [])) more.read;
      passed = ap (lex in_string) parts ∙ spelled.passed _ ∙ more.passed;
    }

-- a character beyond ASCII and a string
char_more : (c : ℕ) (rest s t : List ℕ) → scalar c ≡ true → 128 ≤ c → IsUtf8 (escape s ++ 34 ∷ t)
    → escape s ++ 34 ∷ t ≡ encode c ++ (escape rest ++ 34 ∷ t) → s ≡ encode c ++ rest → ReadsString rest t → ReadsString s t
char_more c rest s t ok big utf8 escaped is more =
    let spelled = ascii_char_spells c ok big in
    let parts = ascii_text-char (escape s ++ 34 ∷ t) (escape rest ++ 34 ∷ t) c utf8 escaped in
    record {
      utf8 = more.utf8;
      read = ap (content plain) parts ∙ spelled.read _ ∙ ap (prepend (encode c)) more.read ∙ ap Some (sym is);
      passed = ap (lex in_string) parts ∙ spelled.passed _ ∙ more.passed;
    }

-- a string that begins with a byte beyond ASCII begins with a character beyond ASCII, and the rest is shorter
record BeginsHigh (x : ℕ) (s t : List ℕ) : Type 0 where
  char : ℕ
  rest : List ℕ
  scalar : scalar char ≡ true
  big : 128 ≤ char
  is : x ∷ s ≡ encode char ++ rest
  shorter : length rest ≤ length s
  escaped : escape (x ∷ s) ++ 34 ∷ t ≡ encode char ++ (escape rest ++ 34 ∷ t)
  utf8 : IsUtf8 (escape rest ++ 34 ∷ t)

-- the character with which a text begins is beyond ASCII where its first byte is
char_is_high : (x : ℕ) (r rest : List ℕ) (c : ℕ) → 128 ≤ x → x ∷ r ≡ encode c ++ rest → 128 ≤ c
char_is_high x r rest c big is = elim (cases_lt c 128) [
  | inr high ↦ high
  | inl small ↦ let same : x ≡ c = byte_from_char (x ∷ r) rest c is small in omega arith
]

-- what follows a character is shorter than what follows its first byte
rest_is_shorter : (x : ℕ) (s rest : List ℕ) (c : ℕ) → x ∷ s ≡ encode c ++ rest → length rest ≤ length s
rest_is_shorter x s rest c is =
    omega (arith, ap length is ∙ length-append (encode c) rest, length-encode c, (len_utf8_bounds c).0)

begins_high : (x : ℕ) (s t : List ℕ) → 128 ≤ x → IsUtf8 (escape (x ∷ s) ++ 34 ∷ t) → BeginsHigh x s t
begins_high x s t big utf8 =
    let whole : escape (x ∷ s) ++ 34 ∷ t ≡ x ∷ (escape s ++ 34 ∷ t) = ap (λ l. (l ++ escape s) ++ 34 ∷ t) (high_alone x big) in
    let first = begins x (escape s ++ 34 ∷ t) utf8.0 utf8.1.0 (utf8.1.1 ∙ whole) in
    let wide = char_is_high x (escape s ++ 34 ∷ t) first.rest first.char big first.is in
    let front = high_front (encode first.char) (x ∷ s) first.rest t (high_char first.char wide) (whole ∙ first.is) in
    record {
      char = first.char;
      rest = front.0;
      scalar = first.scalar;
      big = wide;
      is = front.1;
      shorter = rest_is_shorter x s front.0 first.char front.1;
      escaped = whole ∙ first.is ∙ ap (λ l. encode first.char ++ l) front.2;
      utf8 = subst IsUtf8 front.2 first.utf8;
    }

-- a string of at most so many bytes
string_within : (n : ℕ) (s t : List ℕ) → length s ≤ n → IsUtf8 (escape s ++ 34 ∷ t) → ReadsString s t
string_within n [] t short utf8 = empty_string t utf8
string_within zero (x ∷ s) t short utf8 = absurd (omega arith)
string_within (suc n) (x ∷ s) t short utf8 = elim (cases_lt x 128) [
  | inl small ↦
      let parts = append_assoc (escape_byte x) (escape s) (34 ∷ t) in
      let rest = utf8_past_front (escape_byte x) _ (spells_byte x small).ascii (subst IsUtf8 parts utf8) in
      byte_more x s t small (string_within n s t (omega arith) rest)
  | inr big ↦
      let high = begins_high x s t big utf8 in
      let fewer : length high.rest ≤ n = omega (arith, high.shorter) in
      char_more high.char high.rest (x ∷ s) t high.scalar high.big utf8 high.escaped high.is
      (string_within n high.rest t fewer high.utf8)
]

-- any string
pub reads_string : (s t : List ℕ) → IsUtf8 (escape s ++ 34 ∷ t) → ReadsString s t
reads_string s t utf8 = string_within (length s) s t (omega arith) utf8

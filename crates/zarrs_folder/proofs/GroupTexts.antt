-- A text that is read has each text of its members between quotes, or a backslash somewhere.
use Rattle.std.proofs.Common.{◌≡◌, ◌⊎◌, inl, inr, ⊎_elim, ℕ, zero, suc, ◌==◌, Bool, true, false, cond, List, [], ◌∷◌, ◌++◌, length, Option, Some, None, option_map, option_and_then, nat_lt, nat_eq, drop, ◌&&◌, true≢false, refl, sym, ap, subst, ◌∙◌, append_assoc}
use Rattle.std.specs.Prelude.{⊤}
use Rattle.std.specs.Str.{bytes_eq}
use Rattle.std.specs.List.{starts_with}
use Rattle.std.proofs.lemmas.Bool.{eqb-true}
use Rattle.std.proofs.lemmas.Slice.Eq.{bytes_eq-Decides}
use Rattle.json.specs.Ascii as ascii
use Rattle.json.specs.Token.{Token}
use Rattle.json.specs.Text.{plain, after_backslash, prepend, content}
use Rattle.json.specs.Word.{is_operator, is_space, literal, number_before, after_number, ends_word, word, head}
use Rattle.json.specs.Lex.{Lexeme, token, comma, colon, Class, quote, backslash, operator, space, other, class, operator_lexeme, string_token, Mode, between, in_word, in_string, in_escape, lex_byte, lex, Place, fresh, after_value, after_comma, after_key, begins_colon, may_begin, may_close, if_allowed, place_token, punctuate, tokens}
use Rattle.json.specs.Json as json
use Rattle.json.specs.Json.{Parse, parse_map, after_end_array, read_key, items_step, members_step, items, members, value_with, value, if_last}
use Rattle.json.specs.Find as found
use Rattle.serde_json.specs.Data.{Data, string, object, array, number, null, boolean, Items, Members, no_members, put}
use Rattle.serde_json.specs.Find.{get, get_member}
use Rattle.serde_json.specs.Read.{of_json, of_items, of_members, number_of, max_depth, read}
use Rattle.serde_json.proofs.Views.{get_member-put, get_member-put_other}

-- the bytes stand somewhere in a text
abbrev pub StandsIn : List ℕ → List ℕ → Type 0
StandsIn word text = (front : List ℕ) × (back : List ℕ) × (text ≡ front ++ (word ++ back))

-- a text has a backslash, or this text between quotes
abbrev pub IsSpelt : List ℕ → List ℕ → Type 0
IsSpelt s text = StandsIn (ascii.backslash ∷ []) text ⊎ StandsIn (ascii.quote ∷ (s ++ ascii.quote ∷ [])) text

-- one of the items is this one
abbrev pub Among : {A : Type 0} → A → List A → Type 0
Among a [] = ⊥
Among a (x ∷ xs) = (a ≡ x) ⊎ Among a xs

-- ---- bytes

-- what stands in a text stands in it with one byte more in front
stands_behind : (word text : List ℕ) (x : ℕ) → StandsIn word text → StandsIn word (x ∷ text)
stands_behind word text x (front, back, is) = (x ∷ front, back, ap (λ t. x ∷ t) is)

-- so does what is spelt
spelt_behind : (s text : List ℕ) (x : ℕ) → IsSpelt s text → IsSpelt s (x ∷ text)
spelt_behind s text x (inl h) = inl (stands_behind (ascii.backslash ∷ []) text x h)
spelt_behind s text x (inr h) = inr (stands_behind (ascii.quote ∷ (s ++ ascii.quote ∷ [])) text x h)

-- what was put in front of a text that may be none
prepended : (x : ℕ) (o : Option (List ℕ)) (s : List ℕ) → prepend (x ∷ []) o ≡ Some s → (rest : List ℕ) × (o ≡ Some rest) × (s ≡ x ∷ rest)
prepended x None s is = let no : None ≡ Some s = is in cc
prepended x (Some rest) s is = let same : x ∷ rest ≡ s = cc in (rest, refl, sym same)

-- a string without a backslash ends at the next quote
content_is : (xs s : List ℕ) → content plain xs ≡ Some s
    → StandsIn (ascii.backslash ∷ []) xs ⊎ ((back : List ℕ) × (xs ≡ s ++ ascii.quote ∷ back))
unfolding content
content_is [] s is = let no : None ≡ Some s = is in cc
content_is (x ∷ xs) s is = by (x == ascii.quote) (x == ascii.backslash) (nat_lt x ascii.space) refl refl (content_is xs) is
  where
    by : (q b l : Bool) → (x == ascii.quote) ≡ q → (x == ascii.backslash) ≡ b
        → ((r : List ℕ) → content plain xs ≡ Some r → StandsIn (ascii.backslash ∷ []) xs ⊎ ((back : List ℕ) × (xs ≡ r ++ ascii.quote ∷ back)))
        → cond q (Some []) (cond b (content after_backslash xs) (cond l None (prepend (x ∷ []) (content plain xs)))) ≡ Some s
        → StandsIn (ascii.backslash ∷ []) (x ∷ xs) ⊎ ((back : List ℕ) × (x ∷ xs ≡ s ++ ascii.quote ∷ back))
    by true b l isq isb later h = let same : [] ≡ s = cc in let at : x ≡ ascii.quote = eqb-true x ascii.quote isq in inr (xs, subst (λ t. x ∷ xs ≡ t ++ ascii.quote ∷ xs) same (ap (λ y. y ∷ xs) at))
    by false true l isq isb later h = let at : x ≡ ascii.backslash = eqb-true x ascii.backslash isb in inl ([], xs, ap (λ y. y ∷ xs) at)
    by false false true isq isb later h = let no : None ≡ Some s = h in cc
    by false false false isq isb later h =
        let w = prepended x (content plain xs) s h in
        ⊎_elim (λ k. inl (stands_behind (ascii.backslash ∷ []) xs x k))
        (λ k. inr (k.0, subst (λ t. x ∷ xs ≡ t ++ ascii.quote ∷ k.0) (sym w.2) (ap (λ t. x ∷ t) k.1)))
        (later w.0 w.1)

-- a string that begins behind a quote is spelt in the text from there on
spelt_from : (x : ℕ) (xs s : List ℕ) → x ≡ ascii.quote → content plain xs ≡ Some s → IsSpelt s (x ∷ xs)
spelt_from x xs s at is = ⊎_elim (λ k. inl (stands_behind (ascii.backslash ∷ []) xs x k))
    (λ k. inr ([], k.0, ap (λ y. y ∷ xs) at ∙ ap (λ t. ascii.quote ∷ t) (k.1 ∙ sym (append_assoc s (ascii.quote ∷ []) k.0))))
    (content_is xs s is)

-- ---- lexemes

-- the token is a text
abbrev is_text : Token → Bool
is_text Token.begin_object = false
is_text Token.end_object = false
is_text Token.begin_array = false
is_text Token.end_array = false
is_text (Token.key s) = false
is_text (Token.string s) = true
is_text (Token.number s) = false
is_text (Token.boolean b) = false
is_text Token.null = false
is_text Token.bad = false

-- neither of two is a text
of_cond : (b : Bool) (x y : Token) → is_text x ≡ false → is_text y ≡ false → is_text (cond b x y) ≡ false
of_cond true x y p q = p
of_cond false x y p q = q

-- no number is a text
number_is_none : (t : List ℕ) (o : Option (List ℕ)) → is_text (number_before t o) ≡ false
number_is_none t None = refl
number_is_none t (Some rest) = of_cond _ (Token.number _) Token.bad refl refl

-- none of four is a text
of_three_conds : (a b c : Bool) (x y z w : Token) → is_text x ≡ false → is_text y ≡ false → is_text z ≡ false → is_text w ≡ false → is_text (cond a x (cond b y (cond c z w))) ≡ false
of_three_conds true b c x y z w p q r s = p
of_three_conds false true c x y z w p q r s = q
of_three_conds false false true x y z w p q r s = r
of_three_conds false false false x y z w p q r s = s

-- no literal is a text, where its token is none
literal_is_none : (name : List ℕ) (x : Token) (t : List ℕ) → is_text x ≡ false → is_text (literal name x t) ≡ false
literal_is_none name x t none = of_cond (starts_with nat_eq t name && ends_word (drop (length name) t)) x Token.bad none refl

-- no word is a text
word_is_none : (t : List ℕ) → is_text (word t) ≡ false
unfolding word
word_is_none t = of_three_conds (head t == ascii.lower_t) (head t == ascii.lower_f) (head t == ascii.lower_n)
    (literal ascii.true_text (Token.boolean true) t) (literal ascii.false_text (Token.boolean false) t) (literal ascii.null_text Token.null t) (number_before t (after_number t))
    (literal_is_none ascii.true_text (Token.boolean true) t refl) (literal_is_none ascii.false_text (Token.boolean false) t refl)
    (literal_is_none ascii.null_text Token.null t refl) (number_is_none t (after_number t))

-- a lexeme is a text
abbrev is_text_lexeme : Lexeme → Bool
is_text_lexeme (token t) = is_text t
is_text_lexeme comma = false
is_text_lexeme colon = false

-- no operator is a text
operator_is_none : (x : ℕ) → is_text_lexeme (operator_lexeme x) ≡ false
operator_is_none x = by (x == ascii.open_brace) (x == ascii.close_brace) (x == ascii.open_bracket) (x == ascii.close_bracket) (x == ascii.comma)
  where
    by : (a b c d e : Bool) → is_text_lexeme (cond a (token Token.begin_object) (cond b (token Token.end_object) (cond c (token Token.begin_array) (cond d (token Token.end_array) (cond e comma colon))))) ≡ false
    by true b c d e = refl
    by false true c d e = refl
    by false false true d e = refl
    by false false false true e = refl
    by false false false false true = refl
    by false false false false false = refl

-- a lexeme that is no text is another
not_this : {X : Type 0} (s : List ℕ) (l : Lexeme) → is_text_lexeme l ≡ false → token (Token.string s) ≡ l → X
not_this s l none same = absurd (true≢false (ap is_text_lexeme same ∙ none))

-- what a quote begins
string_is : (s : List ℕ) (o : Option (List ℕ)) → token (Token.string s) ≡ token (string_token o) → o ≡ Some s
string_is s None same = absurd (true≢false (ap is_text_lexeme same))
string_is s (Some r) same = let is : r ≡ s = cc in ap Some is

-- the class of a byte tells the quote
class_quote : (x : ℕ) → class x ≡ quote → x ≡ ascii.quote
class_quote x is = by (x == ascii.quote) (x == ascii.backslash) (is_operator x) (is_space x) refl is
  where
    by : (q b o s : Bool) → (x == ascii.quote) ≡ q → cond q quote (cond b backslash (cond o operator (cond s space other))) ≡ quote → x ≡ ascii.quote
    by true b o s isq h = eqb-true x ascii.quote isq
    by false true o s isq h = let no : backslash ≡ quote = h in cc
    by false false true s isq h = let no : operator ≡ quote = h in cc
    by false false false true isq h = let no : space ≡ quote = h in cc
    by false false false false isq h = let no : other ≡ quote = h in cc

-- a text among the lexemes is spelt in the bytes, by what holds of the bytes behind
lexed : (m : Mode) (c : Class) (x : ℕ) (xs s : List ℕ) → class x ≡ c → ((n : Mode) → Among (token (Token.string s)) (lex n xs) → IsSpelt s xs)
    → Among (token (Token.string s)) (lex_byte m c x xs (λ next. lex next xs)) → IsSpelt s (x ∷ xs)
lexed between quote x xs s is later (inl same) = spelt_from x xs s (class_quote x is) (string_is s (content plain xs) same)
lexed between quote x xs s is later (inr h) = spelt_behind s xs x (later in_string h)
lexed between backslash x xs s is later (inl same) = not_this s (token Token.bad) refl same
lexed between backslash x xs s is later (inr h) = spelt_behind s xs x (later in_word h)
lexed between operator x xs s is later (inl same) = not_this s (operator_lexeme x) (operator_is_none x) same
lexed between operator x xs s is later (inr h) = spelt_behind s xs x (later between h)
lexed between space x xs s is later h = spelt_behind s xs x (later between h)
lexed between other x xs s is later (inl same) = not_this s (token (word (x ∷ xs))) (word_is_none (x ∷ xs)) same
lexed between other x xs s is later (inr h) = spelt_behind s xs x (later in_word h)
lexed in_word quote x xs s is later h = spelt_behind s xs x (later in_word h)
lexed in_word backslash x xs s is later h = spelt_behind s xs x (later in_word h)
lexed in_word operator x xs s is later (inl same) = not_this s (operator_lexeme x) (operator_is_none x) same
lexed in_word operator x xs s is later (inr h) = spelt_behind s xs x (later between h)
lexed in_word space x xs s is later h = spelt_behind s xs x (later between h)
lexed in_word other x xs s is later h = spelt_behind s xs x (later in_word h)
lexed in_string quote x xs s is later h = spelt_behind s xs x (later between h)
lexed in_string backslash x xs s is later h = spelt_behind s xs x (later in_escape h)
lexed in_string operator x xs s is later h = spelt_behind s xs x (later in_string h)
lexed in_string space x xs s is later h = spelt_behind s xs x (later in_string h)
lexed in_string other x xs s is later h = spelt_behind s xs x (later in_string h)
lexed in_escape quote x xs s is later h = spelt_behind s xs x (later in_string h)
lexed in_escape backslash x xs s is later h = spelt_behind s xs x (later in_string h)
lexed in_escape operator x xs s is later h = spelt_behind s xs x (later in_string h)
lexed in_escape space x xs s is later h = spelt_behind s xs x (later in_string h)
lexed in_escape other x xs s is later h = spelt_behind s xs x (later in_string h)

-- a text among the lexemes of bytes is spelt in them
lex_spelt : (m : Mode) (xs s : List ℕ) → Among (token (Token.string s)) (lex m xs) → IsSpelt s xs
unfolding lex
lex_spelt m [] s h = absurd h
lex_spelt m (x ∷ xs) s h = lexed m (class x) x xs s refl (λ n. lex_spelt n xs s) h

-- ---- tokens

-- two texts are one
same_text : {X : Type 0} (s : List ℕ) (t : Token) → is_text t ≡ false → Token.string s ≡ t → X
same_text s t none same = absurd (true≢false (ap is_text same ∙ none))

-- a text among the tokens from an allowed one on is it, or is behind it
allowed : (b : Bool) (s : List ℕ) (t : Token) (k : Place → List Token) (next : Place) → Among (Token.string s) (if_allowed b t k next) → (Token.string s ≡ t) ⊎ Among (Token.string s) (k next)
allowed true s t k next h = h
allowed false s t k next (inl same) = same_text s Token.bad refl same
allowed false s t k next (inr h) = absurd h

-- what begins a fault has no text
none_in_bad : {X : Type 0} (s : List ℕ) → Among (Token.string s) (Token.bad ∷ []) → X
none_in_bad s (inl same) = same_text s Token.bad refl same
none_in_bad s (inr h) = absurd h

module _ (s : List ℕ) (ls : List Lexeme) (k : Place → List Token) (later : (next : Place) → Among (Token.string s) (k next) → Among (token (Token.string s)) ls) where
  -- behind an allowed token that is no text
  behind : (b : Bool) (t : Token) (l : Lexeme) (next : Place) → is_text t ≡ false → Among (Token.string s) (if_allowed b t k next) → Among (token (Token.string s)) (l ∷ ls)
  behind b t l next none h = ⊎_elim (λ same. same_text s t none same) (λ more. inr (later next more)) (allowed b s t k next h)

  -- a text among the tokens is one among the lexemes, at each lexeme
  placed : (p : Place) (t : Token) (b : Bool) → Among (Token.string s) (place_token p t b k) → Among (token (Token.string s)) (token t ∷ ls)
  placed p Token.begin_object b h = behind (may_begin p) Token.begin_object _ fresh refl h
  placed p Token.end_object b h = behind (may_close p) Token.end_object _ after_value refl h
  placed p Token.begin_array b h = behind (may_begin p) Token.begin_array _ fresh refl h
  placed p Token.end_array b h = behind (may_close p) Token.end_array _ after_value refl h
  placed p (Token.key x) b h = none_in_bad s h
  placed p (Token.string x) true h = behind (may_begin p) (Token.key x) _ after_key refl h
  placed p (Token.string x) false h = ⊎_elim (λ same. inl (ap token same)) (λ more. inr (later after_value more)) (allowed (may_begin p) s (Token.string x) k after_value h)
  placed p (Token.number x) b h = behind (may_begin p) (Token.number x) _ after_value refl h
  placed p (Token.boolean x) b h = behind (may_begin p) (Token.boolean x) _ after_value refl h
  placed p Token.null b h = behind (may_begin p) Token.null _ after_value refl h
  placed p Token.bad b h = none_in_bad s h

-- a text among the tokens is one among the lexemes
punctuated : (p : Place) (ls : List Lexeme) (s : List ℕ) → Among (Token.string s) (punctuate p ls) → Among (token (Token.string s)) ls
unfolding punctuate
punctuated fresh [] s h = absurd h
punctuated after_value [] s h = absurd h
punctuated after_comma [] s h = none_in_bad s h
punctuated after_key [] s h = none_in_bad s h
punctuated fresh (token t ∷ ls) s h = placed s ls (λ next. punctuate next ls) (λ next. punctuated next ls s) fresh t (begins_colon ls) h
punctuated after_value (token t ∷ ls) s h = placed s ls (λ next. punctuate next ls) (λ next. punctuated next ls s) after_value t (begins_colon ls) h
punctuated after_comma (token t ∷ ls) s h = placed s ls (λ next. punctuate next ls) (λ next. punctuated next ls s) after_comma t (begins_colon ls) h
punctuated after_key (token t ∷ ls) s h = placed s ls (λ next. punctuate next ls) (λ next. punctuated next ls s) after_key t (begins_colon ls) h
punctuated fresh (comma ∷ ls) s h = none_in_bad s h
punctuated after_value (comma ∷ ls) s h = inr (punctuated after_comma ls s h)
punctuated after_comma (comma ∷ ls) s h = none_in_bad s h
punctuated after_key (comma ∷ ls) s h = none_in_bad s h
punctuated fresh (colon ∷ ls) s h = none_in_bad s h
punctuated after_value (colon ∷ ls) s h = none_in_bad s h
punctuated after_comma (colon ∷ ls) s h = none_in_bad s h
punctuated after_key (colon ∷ ls) s h = inr (punctuated fresh ls s h)

-- a text among the tokens of bytes is spelt in them
tokens_spelt : (xs s : List ℕ) → Among (Token.string s) (tokens xs) → IsSpelt s xs
tokens_spelt xs s h = lex_spelt between xs s (punctuated fresh (lex between xs) s h)

-- ---- values

-- each of the tokens that are left is one of those before
abbrev IsPart : List Token → List Token → Type 0
IsPart rest ts = (t : Token) → Among t rest → Among t ts

-- what a parse leaves is a part
abbrev Leaves : {A : Type 0} → List Token → Option (A × List Token) → Type 0
Leaves ts None = ⊤
Leaves ts (Some p) = IsPart p.1 ts

-- whatever the tokens are
abbrev LeavesPart : {A : Type 0} → Parse A → Type 0
LeavesPart p = (ts : List Token) → Leaves ts (p ts)

-- and where something is made of what was parsed
leaves_mapped : {A B : Type 0} (f : A → B) (ts : List Token) (o : Option (A × List Token)) → Leaves ts o → Leaves ts (parse_map f o)
leaves_mapped f ts None h = tt
leaves_mapped f ts (Some p) h = h

-- what is left of a part is one
leaves_further : {A : Type 0} (ts rest : List Token) (o : Option (A × List Token)) → IsPart rest ts → Leaves rest o → Leaves ts o
leaves_further ts rest None part h = tt
leaves_further ts rest (Some p) part h = λ t in'. part t (h t in')

-- and one value after another
leaves_more : {B : Type 0} (h : json.Json → B → B) (more : Parse B) → LeavesPart more → (ts : List Token) (o : Option (json.Json × List Token)) → Leaves ts o
    → Leaves ts (option_and_then (λ q. parse_map (h q.0) (more q.1)) o)
leaves_more h more later ts None part = tt
leaves_more h more later ts (Some q) part = leaves_further ts q.1 _ part (leaves_mapped (h q.0) q.1 (more q.1) (later q.1))

-- behind the end of an array
leaves_end : (ts : List Token) (o : Option (List Token)) → after_end_array ts ≡ o → (r : List Token) → o ≡ Some r → IsPart r ts
leaves_end [] o is r e = let no : None ≡ Some r = is ∙ e in cc
leaves_end (Token.begin_object ∷ ts) o is r e = let no : None ≡ Some r = is ∙ e in cc
leaves_end (Token.end_object ∷ ts) o is r e = let no : None ≡ Some r = is ∙ e in cc
leaves_end (Token.begin_array ∷ ts) o is r e = let no : None ≡ Some r = is ∙ e in cc
leaves_end (Token.end_array ∷ ts) o is r e = let some : Some ts ≡ Some r = is ∙ e in let same : ts ≡ r = cc in λ t in'. inr (subst (Among t) (sym same) in')
leaves_end (Token.key s ∷ ts) o is r e = let no : None ≡ Some r = is ∙ e in cc
leaves_end (Token.string s ∷ ts) o is r e = let no : None ≡ Some r = is ∙ e in cc
leaves_end (Token.number s ∷ ts) o is r e = let no : None ≡ Some r = is ∙ e in cc
leaves_end (Token.boolean b ∷ ts) o is r e = let no : None ≡ Some r = is ∙ e in cc
leaves_end (Token.null ∷ ts) o is r e = let no : None ≡ Some r = is ∙ e in cc
leaves_end (Token.bad ∷ ts) o is r e = let no : None ≡ Some r = is ∙ e in cc

-- behind a key, or the end of an object
leaves_key : (ts : List Token) → Leaves ts (read_key ts)
leaves_key [] = tt
leaves_key (Token.begin_object ∷ ts) = tt
leaves_key (Token.end_object ∷ ts) = λ t in'. inr in'
leaves_key (Token.begin_array ∷ ts) = tt
leaves_key (Token.end_array ∷ ts) = tt
leaves_key (Token.key s ∷ ts) = λ t in'. inr in'
leaves_key (Token.string s ∷ ts) = tt
leaves_key (Token.number s ∷ ts) = tt
leaves_key (Token.boolean b ∷ ts) = tt
leaves_key (Token.null ∷ ts) = tt
leaves_key (Token.bad ∷ ts) = tt

module _ (p : Parse json.Json) (part : LeavesPart p) where
  item_leaves : (more : Parse json.Items) → LeavesPart more → (ts : List Token) (o : Option (List Token)) → after_end_array ts ≡ o → Leaves ts (items_step p more ts o)
  item_leaves more later ts (Some r) is = leaves_end ts (Some r) is r refl
  item_leaves more later ts None is = leaves_more json.item more later ts (p ts) (part ts)

  items_leave : (n : ℕ) → LeavesPart (items p n)
  unfolding items
  items_leave zero ts = tt
  items_leave (suc n) ts = item_leaves (items p n) (items_leave n) ts (after_end_array ts) refl

  member_leaves : (more : Parse json.Members) → LeavesPart more → (ts : List Token) (o : Option (Option (List ℕ) × List Token)) → Leaves ts o → Leaves ts (option_and_then (λ q. members_step p more q.0 q.1) o)
  member_leaves more later ts None h = tt
  member_leaves more later ts (Some (None, r)) h = h
  member_leaves more later ts (Some (Some k, r)) h = leaves_further ts r _ h (leaves_more (json.member k) more later r (p r) (part r))

  members_leave : (n : ℕ) → LeavesPart (members p n)
  unfolding members
  members_leave zero ts = tt
  members_leave (suc n) ts = member_leaves (members p n) (members_leave n) ts (read_key ts) (leaves_key ts)

one_leaves : (a : Parse json.Items) (o : Parse json.Members) → LeavesPart a → LeavesPart o → LeavesPart (value_with a o)
one_leaves a o p q [] = tt
one_leaves a o p q (Token.begin_object ∷ ts) = leaves_further (Token.begin_object ∷ ts) ts _ (λ t in'. inr in') (leaves_mapped json.object ts (o ts) (q ts))
one_leaves a o p q (Token.end_object ∷ ts) = tt
one_leaves a o p q (Token.begin_array ∷ ts) = leaves_further (Token.begin_array ∷ ts) ts _ (λ t in'. inr in') (leaves_mapped json.array ts (a ts) (p ts))
one_leaves a o p q (Token.end_array ∷ ts) = tt
one_leaves a o p q (Token.key s ∷ ts) = tt
one_leaves a o p q (Token.string s ∷ ts) = λ t in'. inr in'
one_leaves a o p q (Token.number s ∷ ts) = λ t in'. inr in'
one_leaves a o p q (Token.boolean b ∷ ts) = λ t in'. inr in'
one_leaves a o p q (Token.null ∷ ts) = λ t in'. inr in'
one_leaves a o p q (Token.bad ∷ ts) = tt

value_leaves : (d : ℕ) → LeavesPart (value d)
unfolding value
value_leaves zero = one_leaves (λ ts. None) (λ ts. None) (λ ts. tt) (λ ts. tt)
value_leaves (suc d) = one_leaves (λ ts. items (value d) (length ts) ts) (λ ts. members (value d) (length ts) ts)
    (λ ts. items_leave (value d) (value_leaves d) (length ts) ts) (λ ts. members_leave (value d) (value_leaves d) (length ts) ts)

-- ---- the texts of members

-- a value that is a text is one of the tokens that it was read from
abbrev TextIsAmong : List Token → Option (json.Json × List Token) → Type 0
TextIsAmong ts None = ⊤
TextIsAmong ts (Some p) = (s : List ℕ) → p.0 ≡ json.string s → Among (Token.string s) ts

-- so are the members that are texts
abbrev TextsAreAmong : List ℕ → List Token → Option (json.Members × List Token) → Type 0
TextsAreAmong name ts None = ⊤
TextsAreAmong name ts (Some p) = (s : List ℕ) → found.get_member name p.0 ≡ Some (json.string s) → Among (Token.string s) ts

-- the members that are texts, of a value
abbrev MemberIsAmong : List ℕ → List Token → Option (json.Json × List Token) → Type 0
MemberIsAmong name ts None = ⊤
MemberIsAmong name ts (Some p) = (s : List ℕ) → found.get name p.0 ≡ Some (json.string s) → Among (Token.string s) ts

-- an array or an object is no text
array_among : (ts rest : List Token) (o : Option (json.Items × List Token)) → TextIsAmong ts (parse_map json.array o)
array_among ts rest None = tt
array_among ts rest (Some p) = λ s is. cc

object_among : (ts rest : List Token) (o : Option (json.Members × List Token)) → TextIsAmong ts (parse_map json.object o)
object_among ts rest None = tt
object_among ts rest (Some p) = λ s is. cc

-- a value that is a text is the token that was read
text_among : (a : Parse json.Items) (o : Parse json.Members) (ts : List Token) → TextIsAmong ts (value_with a o ts)
text_among a o [] = tt
text_among a o (Token.begin_object ∷ ts) = object_among (Token.begin_object ∷ ts) ts (o ts)
text_among a o (Token.end_object ∷ ts) = tt
text_among a o (Token.begin_array ∷ ts) = array_among (Token.begin_array ∷ ts) ts (a ts)
text_among a o (Token.end_array ∷ ts) = tt
text_among a o (Token.key x ∷ ts) = tt
text_among a o (Token.string x ∷ ts) = λ s is. let same : s ≡ x = cc in inl (ap Token.string same)
text_among a o (Token.number x ∷ ts) = λ s is. cc
text_among a o (Token.boolean b ∷ ts) = λ s is. cc
text_among a o (Token.null ∷ ts) = λ s is. cc
text_among a o (Token.bad ∷ ts) = tt

-- a text is the later of two values, or where there is none later the earlier
later_or_text : (o : Option json.Json) (b : Bool) (j : json.Json) (s : List ℕ) → found.later_or o (cond b (Some j) None) ≡ Some (json.string s) → (o ≡ Some (json.string s)) ⊎ (j ≡ json.string s)
later_or_text (Some x) b j s is = inl is
later_or_text None true j s is = let same : j ≡ json.string s = cc in inr same
later_or_text None false j s is = let no : None ≡ Some (json.string s) = is in cc

module _ (name : List ℕ) (p : Parse json.Json) (part : LeavesPart p) (text : (ts : List Token) → TextIsAmong ts (p ts)) where
  -- one member more
  more_among : (k : List ℕ) (j : json.Json) (ts rest : List Token) → IsPart rest ts → ((s : List ℕ) → j ≡ json.string s → Among (Token.string s) ts)
      → (o : Option (json.Members × List Token)) → TextsAreAmong name rest o → TextsAreAmong name ts (parse_map (json.member k j) o)
  more_among k j ts rest left own None h = tt
  more_among k j ts rest left own (Some q) h = λ s is. ⊎_elim (λ later. left (Token.string s) (h s later)) (λ same. own s same) (later_or_text (found.get_member name q.0) (bytes_eq k name) j s is)

  -- behind a key
  member_among : (more : Parse json.Members) → ((ts : List Token) → TextsAreAmong name ts (more ts)) → (k : List ℕ) (ts : List Token) (o : Option (json.Json × List Token)) → Leaves ts o → TextIsAmong ts o
      → TextsAreAmong name ts (option_and_then (λ q. parse_map (json.member k q.0) (more q.1)) o)
  member_among more later k ts None left own = tt
  member_among more later k ts (Some q) left own = more_among k q.0 ts q.1 left own (more q.1) (later q.1)

  -- what is so of a part is so of the whole
  among_further : (ts rest : List Token) (o : Option (json.Members × List Token)) → IsPart rest ts → TextsAreAmong name rest o → TextsAreAmong name ts o
  among_further ts rest None left h = tt
  among_further ts rest (Some q) left h = λ s is. left (Token.string s) (h s is)

  -- a turn
  turn_among : (more : Parse json.Members) → ((ts : List Token) → TextsAreAmong name ts (more ts)) → (ts : List Token) (o : Option (Option (List ℕ) × List Token)) → Leaves ts o
      → TextsAreAmong name ts (option_and_then (λ q. members_step p more q.0 q.1) o)
  turn_among more later ts None left = tt
  turn_among more later ts (Some (None, r)) left = λ s is. let no : None ≡ Some (json.string s) = is in cc
  turn_among more later ts (Some (Some k, r)) left = among_further ts r _ left (member_among more later k r (p r) (part r) (text r))

  members_among : (n : ℕ) (ts : List Token) → TextsAreAmong name ts (members p n ts)
  unfolding members
  members_among zero ts = tt
  members_among (suc n) ts = turn_among (members p n) (members_among n) ts (read_key ts) (leaves_key ts)

-- an array has no members
array_has_none : (name : List ℕ) (ts : List Token) (o : Option (json.Items × List Token)) → MemberIsAmong name ts (parse_map json.array o)
array_has_none name ts None = tt
array_has_none name ts (Some q) = λ s is. let no : None ≡ Some (json.string s) = is in cc

-- an object has those that it was read with
object_has : (name : List ℕ) (t : Token) (ts : List Token) (o : Option (json.Members × List Token)) → TextsAreAmong name ts o → MemberIsAmong name (t ∷ ts) (parse_map json.object o)
object_has name t ts None h = tt
object_has name t ts (Some q) h = λ s is. inr (h s is)

-- the members of a value that are texts are among its tokens
one_has : (name : List ℕ) (a : Parse json.Items) (o : Parse json.Members) → ((ts : List Token) → TextsAreAmong name ts (o ts)) → (ts : List Token) → MemberIsAmong name ts (value_with a o ts)
one_has name a o h [] = tt
one_has name a o h (Token.begin_object ∷ ts) = object_has name Token.begin_object ts (o ts) (h ts)
one_has name a o h (Token.end_object ∷ ts) = tt
one_has name a o h (Token.begin_array ∷ ts) = array_has_none name (Token.begin_array ∷ ts) (a ts)
one_has name a o h (Token.end_array ∷ ts) = tt
one_has name a o h (Token.key x ∷ ts) = tt
one_has name a o h (Token.string x ∷ ts) = λ s is. let no : None ≡ Some (json.string s) = is in cc
one_has name a o h (Token.number x ∷ ts) = λ s is. let no : None ≡ Some (json.string s) = is in cc
one_has name a o h (Token.boolean b ∷ ts) = λ s is. let no : None ≡ Some (json.string s) = is in cc
one_has name a o h (Token.null ∷ ts) = λ s is. let no : None ≡ Some (json.string s) = is in cc
one_has name a o h (Token.bad ∷ ts) = tt

-- whatever the depth
texts_of_values : (d : ℕ) (ts : List Token) → TextIsAmong ts (value d ts)
unfolding value
texts_of_values zero ts = text_among (λ ts. None) (λ ts. None) ts
texts_of_values (suc d) ts = text_among (λ ts. items (value d) (length ts) ts) (λ ts. members (value d) (length ts) ts) ts

members_of_values : (name : List ℕ) (d : ℕ) (ts : List Token) → MemberIsAmong name ts (value d ts)
unfolding value
members_of_values name zero = one_has name (λ ts. None) (λ ts. None) (λ ts. tt)
members_of_values name (suc d) = one_has name (λ ts. items (value d) (length ts) ts) (λ ts. members (value d) (length ts) ts)
    (λ ts. members_among name (value d) (value_leaves d) (texts_of_values d) (length ts) ts)

-- ---- data

-- the data is a text
abbrev is_string : Data → Bool
is_string null = false
is_string (boolean b) = false
is_string (number n) = false
is_string (string s) = true
is_string (array ds) = false
is_string (object ms) = false

-- what is made of a value is no text where it never is
mapped_text : {A : Type 0} (f : A → Data) (o : Option A) (s : List ℕ) → ((a : A) → is_string (f a) ≡ false) → option_map f o ≡ Some (string s) → ⊥
mapped_text f None s none is = let no : None ≡ Some (string s) = is in cc
mapped_text f (Some a) s none is = let same : string s ≡ f a = cc in true≢false (ap is_string same ∙ none a)

-- only a text becomes one
string_of : (j : json.Json) (s : List ℕ) → of_json j ≡ Some (string s) → j ≡ json.string s
string_of json.null s is = let same : null ≡ string s = cc in cc
string_of (json.boolean b) s is = let same : boolean b ≡ string s = cc in cc
string_of (json.number n) s is = absurd (mapped_text number (number_of n) s (λ a. refl) is)
string_of (json.string x) s is = let same : x ≡ s = cc in ap json.string same
string_of (json.array js) s is = absurd (mapped_text array (of_items js) s (λ a. refl) is)
string_of (json.object ms) s is = absurd (mapped_text object (of_members ms no_members) s (λ a. refl) is)

-- what is found at its name once a member was put is it
put_here : (name k : List ℕ) (d : Data) (ms : Members) (x : Data) → k ≡ name → get_member name (put k d ms) ≡ Some x → d ≡ x
put_here name k d ms x at is = let there : get_member k (put k d ms) ≡ Some x = subst (λ n. get_member n (put k d ms) ≡ Some x) (sym at) is in
    let value : Some d ≡ Some x = sym (get_member-put k d ms) ∙ there in cc

-- a member of what became data that is a text is one of the value's, or was there before, and then the value has none
abbrev IsTextOf : List ℕ → List ℕ → json.Members → Members → Type 0
IsTextOf name s ms before = (found.get_member name ms ≡ Some (json.string s)) ⊎ ((found.get_member name ms ≡ None) × (get_member name before ≡ Some (string s)))

-- by one member more in front
one_more_text : (name s k : List ℕ) (j : json.Json) (d : Data) (ms : json.Members) (before : Members) → of_json j ≡ Some d → IsTextOf name s ms (put k d before) → IsTextOf name s (json.member k j ms) before
one_more_text name s k j d ms before made (inl later) = inl (ap (λ z. found.later_or z (cond (bytes_eq k name) (Some j) None)) later)
one_more_text name s k j d ms before made (inr (none, has)) = by (bytes_eq k name) refl
  where
    by : (b : Bool) → bytes_eq k name ≡ b → IsTextOf name s (json.member k j ms) before
    by true same =
        let at : k ≡ name = (bytes_eq-Decides k name).0 same in
        let text : d ≡ string s = put_here name k d before (string s) at has in
        let own : j ≡ json.string s = string_of j s (made ∙ ap Some text) in
        inl (ap (λ z. found.later_or z (cond (bytes_eq k name) (Some j) None)) none ∙ ap (λ b. cond b (Some j) None) same ∙ ap Some own)
    by false apart = inr (
      ap (λ z. found.later_or z (cond (bytes_eq k name) (Some j) None)) none ∙ ap (λ b. cond b (Some j) None) apart,
      sym (get_member-put_other name k d before (λ same. true≢false (sym ((bytes_eq-Decides k name).1 (sym same)) ∙ apart))) ∙ has,
    )

members_text : (ms : json.Members) (before after : Members) (name s : List ℕ) → of_members ms before ≡ Some after → get_member name after ≡ Some (string s) → IsTextOf name s ms before
members_text json.no_members before after name s is has = let same : before ≡ after = cc in inr (refl, ap (get_member name) same ∙ has)
members_text (json.member k j ms) before after name s is has = by (of_json j) refl is (λ d whole. members_text ms (put k d before) after name s whole has)
  where
    by : (o : Option Data) → of_json j ≡ o → option_and_then (λ d. of_members ms (put k d before)) o ≡ Some after
        → ((d : Data) → of_members ms (put k d before) ≡ Some after → IsTextOf name s ms (put k d before)) → IsTextOf name s (json.member k j ms) before
    by None made whole more = let no : None ≡ Some after = whole in cc
    by (Some d) made whole more = one_more_text name s k j d ms before made (more d whole)

-- a member of data that is a text is one of the value that it was made of
data_text : (j : json.Json) (d : Data) (name s : List ℕ) → of_json j ≡ Some d → get name d ≡ Some (string s) → found.get name j ≡ Some (json.string s)
data_text (json.object ms) d name s is has = by (of_members ms no_members) refl is
  where
    by : (o : Option Members) → of_members ms no_members ≡ o → option_map object o ≡ Some d → found.get_member name ms ≡ Some (json.string s)
    by None made whole = let no : None ≡ Some d = whole in cc
    by (Some out) made whole =
        let same : object out ≡ d = cc in
        ⊎_elim (λ h. h) (λ h. let no : None ≡ Some (string s) = h.1 in cc) (members_text ms no_members out name s made (subst (λ x. get name x ≡ Some (string s)) (sym same) has))
data_text (json.array js) d name s is has = by (of_items js) is
  where
    by : (o : Option Items) → option_map array o ≡ Some d → None ≡ Some (json.string s)
    by None whole = let no : None ≡ Some d = whole in cc
    by (Some out) whole = let same : array out ≡ d = cc in let no : None ≡ Some (string s) = subst (λ x. get name x ≡ Some (string s)) (sym same) has in cc
data_text json.null d name s is has = let same : null ≡ d = cc in let no : None ≡ Some (string s) = subst (λ x. get name x ≡ Some (string s)) (sym same) has in cc
data_text (json.boolean b) d name s is has = let same : boolean b ≡ d = cc in let no : None ≡ Some (string s) = subst (λ x. get name x ≡ Some (string s)) (sym same) has in cc
data_text (json.string x) d name s is has = let same : string x ≡ d = cc in let no : None ≡ Some (string s) = subst (λ x. get name x ≡ Some (string s)) (sym same) has in cc
data_text (json.number n) d name s is has = by (number_of n) is
  where
    by : (o : Option _) → option_map number o ≡ Some d → None ≡ Some (json.string s)
    by None whole = let no : None ≡ Some d = whole in cc
    by (Some out) whole = let same : number out ≡ d = cc in let no : None ≡ Some (string s) = subst (λ x. get name x ≡ Some (string s)) (sym same) has in cc

-- a whole text is a value with nothing behind
last_is : (o : Option (json.Json × List Token)) (d : Data) → option_and_then of_json (option_and_then (λ p. if_last p.0 p.1) o) ≡ Some d
    → (j : json.Json) × (rest : List Token) × (o ≡ Some (j, rest)) × (of_json j ≡ Some d)
last_is None d is = let no : None ≡ Some d = is in cc
last_is (Some (j, [])) d is = (j, [], refl, is)
last_is (Some (j, t ∷ rest)) d is = let no : None ≡ Some d = is in cc

-- where a text is read, and a member of it is a text, that is spelt in it
pub read_spelt : (text : List ℕ) (d : Data) (name s : List ℕ) → read text ≡ Some d → get name d ≡ Some (string s) → IsSpelt s text
read_spelt text d name s is has =
    let w = last_is (value max_depth (tokens text)) d is in
    let own = data_text w.0 d name s w.3 has in
    tokens_spelt text s (subst (MemberIsAmong name (tokens text)) w.2 (members_of_values name max_depth (tokens text)) s own)

-- The keys of chunks: that they are keys, the texts that make them, and that none is a document's.
use Rattle.std.proofs.Common.{◌≡◌, ◌≢◌, ℕ, zero, suc, ◌<◌, ◌/◌, ◌%◌, ◌==◌, cond, Bool, true, false, List, [], ◌∷◌, ◌++◌, All, length, get_or, map, refl, sym, ap, ◌∙◌, subst, lit<, arith}
use Rattle.std.proofs.lemmas.List.{append-nil}
use Rattle.std.specs.Fmt.{decimal, digits, digits_onto, digit_glyph}
use Rattle.std.specs.List.{flat_map, join_with_byte}
use Rattle.std.proofs.lemmas.Bool.Decides.{nat_tests}
use Rattle.std.proofs.lemmas.List.Elements.{All-nil, All-cons, All-head, All-tail, All-append, All-weaker, All-map, All-contains}
use Rattle.serde_json.specs.Data.{string}
use Rattle.zarrs_store.specs.Segments.{Segments, IsSegment, IsKey, IsKeyText, key_text, segments_of, last_segment}
use Rattle.zarrs_store.specs.Laws.{KeysReadBack}
use Rattle.zarrs_path.specs.Paths.{Path}
use Rattle.zarrs_path.specs.Keys.{zarr_json, zarray, zgroup, zattrs, zmetadata}
use Rattle.zarrs_form.specs.FormsV2.{separator_data}
use Rattle.zarrs_form.specs.declared.chunks.ChunkKeySeparator.{ChunkKeySeparator}
use Rattle.zarrs_form.specs.declared.chunks.ChunkKeySeparator.TheVariants.{Dot, Slash}
use Rattle.zarrs_node.specs.Changes.{document_files}
use Rattle.zarrs_examples.specs.ChunkKeys.{segments_by, chunk_segments, IsNoDocument}
use Rattle.zarrs_examples.specs.declared.chunk_key.ChunkKeyEncoding.{ChunkKeyEncoding}
use Rattle.zarrs_examples.specs.declared.chunk_key.ChunkKeyEncoding.TheVariants.{Default, V2}

-- ---- the bytes of a key

-- neither the slash nor the `z` that stands in the name of each document
abbrev IsPartByte : ℕ → Type 0
IsPartByte b = (b ≢ 47) × (b ≢ 122)

-- a text of such bytes that is not empty
record IsPart (s : List ℕ) : Type 0 where
  some : s ≢ []
  each : All IsPartByte s

-- a digit is such a byte
glyph_byte : (d : ℕ) → d < 10 → IsPartByte (digit_glyph false d)
glyph_byte d l = (grind (arith, nat_tests), grind (arith, nat_tests))

-- a digit before such bytes makes a part
digit_part : (n : ℕ) (acc : List ℕ) → All IsPartByte acc → IsPart (digit_glyph false (n % 10) ∷ acc)
digit_part n acc h = record { some = λ e. cc; each = All-cons IsPartByte _ acc (glyph_byte (n % 10) (omega arith)) h }

-- either of two parts is one
either_part : (b : Bool) (xs ys : List ℕ) → IsPart xs → IsPart ys → IsPart (cond b xs ys)
either_part true xs ys p q = p
either_part false xs ys p q = q

-- digits before a part make a part
digits_part : (k n : ℕ) (acc : List ℕ) → IsPart acc → IsPart (digits_onto k 10 false n acc)
digits_part zero n acc h = h
digits_part (suc k) n acc h =
    let more = digit_part n acc h.each in
    either_part (n / 10 == 0) (digit_glyph false (n % 10) ∷ acc) _ more (digits_part k (n / 10) (digit_glyph false (n % 10) ∷ acc) more)

-- a number in decimal is a part
decimal_part : (n : ℕ) → IsPart (decimal n)
unfolding digits
decimal_part n =
    let one = digit_part n [] (All-nil IsPartByte) in
    either_part (n / 10 == 0) (digit_glyph false (n % 10) ∷ []) _ one (digits_part 63 (n / 10) (digit_glyph false (n % 10) ∷ []) one)

-- each of several numbers is a part
decimal_parts : (ns : List ℕ) → All IsPart (map decimal ns)
decimal_parts ns = All-map IsPart decimal ns (λ k d l. decimal_part (get_or ns k d))

-- parts joined by periods are a part
joined_part : (p : List ℕ) (ps : List (List ℕ)) → All IsPart (p ∷ ps) → IsPart (join_with_byte 46 (p ∷ ps))
joined_part p [] h = All-head IsPart p [] h
joined_part [] (q ∷ ps) h = absurd ((All-head IsPart [] (q ∷ ps) h).some refl)
joined_part (b ∷ p) (q ∷ ps) h =
    let rest = All-cons IsPartByte 46 (join_with_byte 46 (q ∷ ps)) (omega arith, omega arith) (joined_part q ps (All-tail IsPart (b ∷ p) (q ∷ ps) h)).each in
    record { some = λ e. cc; each = All-append IsPartByte (b ∷ p) (46 ∷ join_with_byte 46 (q ∷ ps)) (All-head IsPart (b ∷ p) (q ∷ ps) h).each rest }

-- a list of parts with at least one
record AreParts (ss : Segments) : Type 0 where
  some : ss ≢ []
  each : All IsPart ss

-- a list of parts that begins with one
begun : (s : List ℕ) (ss : Segments) → IsPart s → All IsPart ss → AreParts (s ∷ ss)
begun s ss h hs = record { some = λ e. cc; each = All-cons IsPart s ss h hs }

-- parts joined by a separator are parts
joined_parts : (separator : ChunkKeySeparator) (p : List ℕ) (ps : List (List ℕ)) → IsPart p → All IsPart ps → AreParts (segments_by separator (p ∷ ps))
joined_parts Slash p ps h hs = begun p ps h hs
joined_parts Dot p ps h hs = begun (join_with_byte 46 (p ∷ ps)) [] (joined_part p ps (All-cons IsPart p ps h hs)) (All-nil IsPart)

-- a byte alone is a part
byte_part : (b : ℕ) → IsPartByte b → IsPart (b ∷ [])
byte_part b h = record { some = λ e. cc; each = All-cons IsPartByte b [] h (All-nil IsPartByte) }

-- the key of a chunk is made of parts
chunk_are_parts : (e : ChunkKeyEncoding) (indices : List ℕ) → AreParts (chunk_segments e indices)
chunk_are_parts (Default s) indices = joined_parts s (99 ∷ []) (map decimal indices) (byte_part 99 (omega arith, omega arith)) (decimal_parts indices)
chunk_are_parts (V2 s) [] = joined_parts s (48 ∷ []) [] (byte_part 48 (omega arith, omega arith)) (All-nil IsPart)
chunk_are_parts (V2 s) (i ∷ indices) = joined_parts s (decimal i) (map decimal indices) (decimal_part i) (decimal_parts indices)

-- ---- a key by its text

-- a part is a segment
part_segment : (s : List ℕ) → IsPart s → IsSegment s
part_segment s h = record { nonempty = h.some; no_slash = All-weaker IsPartByte (λ b. b ≢ 47) (λ b k. k.0) s h.each }

-- the key of a chunk is a key
chunk_is_key : (e : ChunkKeyEncoding) (indices : List ℕ) → IsKey (chunk_segments e indices)
chunk_is_key e indices =
    let parts = chunk_are_parts e indices in
    record { some = parts.some; each = All-weaker IsPart IsSegment part_segment (chunk_segments e indices) parts.each }

-- the text of a chunk's key is that of a key
pub chunk_text_is_key : (e : ChunkKeyEncoding) (indices text : List ℕ) → text ≡ key_text (chunk_segments e indices) → IsKeyText text
chunk_text_is_key e indices text is = record { key = chunk_segments e indices; valid = chunk_is_key e indices; is = is }

-- the key with that text is the chunk's
pub chunk_read_back : KeysReadBack → (e : ChunkKeyEncoding) (indices text : List ℕ) (key : Segments) → text ≡ key_text (chunk_segments e indices) → key ≡ segments_of text → key ≡ chunk_segments e indices
chunk_read_back law e indices text key is made = made ∙ ap segments_of is ∙ law (chunk_segments e indices) (chunk_is_key e indices)

-- joined numbers behind a first part: what stands between comes before each of them
joined_text : (b : ℕ) (first ns : List ℕ) → join_with_byte b (first ∷ map decimal ns) ≡ first ++ flat_map (λ n. (b ∷ []) ++ decimal n) ns
joined_text b first [] = sym (append-nil first)
joined_text b first (n ∷ ns) = ap (λ t. first ++ b ∷ t) (joined_text b (decimal n) ns)

-- the text of the key of numbers behind a first part
parts_text : (s : ChunkKeySeparator) (between first ns : List ℕ) → string between ≡ separator_data s → first ++ flat_map (λ n. between ++ decimal n) ns ≡ key_text (segments_by s (first ∷ map decimal ns))
parts_text Dot between first ns e = let is : between ≡ 46 ∷ [] = cc in rw is (sym (joined_text 46 first ns))
parts_text Slash between first ns e = let is : between ≡ 47 ∷ [] = cc in rw is (sym (joined_text 47 first ns))

-- the text of a key by `default`
pub default_text : (s : ChunkKeySeparator) (e : ChunkKeyEncoding) (indices between first : List ℕ) → e ≡ Default s → first ≡ 99 ∷ [] → string between ≡ separator_data s → first ++ flat_map (λ n. between ++ decimal n) indices ≡ key_text (chunk_segments e indices)
default_text s e indices between first is begins told = rw (is, begins) (parts_text s between (99 ∷ []) indices told)

-- the text of a key by `v2` with an index
pub v2_text : (s : ChunkKeySeparator) (e : ChunkKeyEncoding) (indices between first : List ℕ) (i : ℕ) (rest : List ℕ) → e ≡ V2 s → indices ≡ i ∷ rest → first ≡ decimal i → string between ≡ separator_data s → first ++ flat_map (λ n. between ++ decimal n) rest ≡ key_text (chunk_segments e indices)
v2_text s e indices between first i rest is split begins told = rw (is, split, begins) (parts_text s between (decimal i) rest told)

-- ---- beside the documents of paths

-- the last segment is that of the back
last_behind : (ss : Segments) (s : List ℕ) (ts : Segments) → last_segment (ss ++ s ∷ ts) ≡ last_segment (s ∷ ts)
last_behind [] s ts = refl
last_behind (x ∷ []) s ts = refl
last_behind (x ∷ y ∷ ss) s ts = last_behind (y ∷ ss) s ts

-- the last of parts is a part
last_part : (s : List ℕ) (ss : Segments) → All IsPart (s ∷ ss) → IsPart (last_segment (s ∷ ss))
last_part s [] h = All-head IsPart s [] h
last_part s (t ∷ ss) h = last_part t ss (All-tail IsPart s (t ∷ ss) h)

-- the last segment of a key of parts behind a path is a part
last_part_behind : (p ss : Segments) → AreParts ss → IsPart (last_segment (p ++ ss))
last_part_behind p [] h = absurd (h.some refl)
last_part_behind p (s ∷ ss) h = subst IsPart (sym (last_behind p s ss)) (last_part s ss h.each)

-- no part is the name of a document
abbrev IsNoPart : List ℕ → Type 0
IsNoPart file = IsPart file → ⊥

-- a text with a `z` is no part
z_no_part : (file : List ℕ) (k : ℕ) → k < length file → get_or file k 0 ≡ 122 → IsNoPart file
z_no_part file k l z h = (h.each k 0 l).1 z

-- the names of documents are no parts
files_no_parts : All IsNoPart (zmetadata ∷ document_files)
files_no_parts =
    let q4 = All-cons IsNoPart zattrs [] (z_no_part zattrs 1 (lit< tt) refl) (All-nil IsNoPart) in
    let q3 = All-cons IsNoPart zgroup (zattrs ∷ []) (z_no_part zgroup 1 (lit< tt) refl) q4 in
    let q2 = All-cons IsNoPart zarray (zgroup ∷ zattrs ∷ []) (z_no_part zarray 1 (lit< tt) refl) q3 in
    let q1 = All-cons IsNoPart zarr_json (zarray ∷ zgroup ∷ zattrs ∷ []) (z_no_part zarr_json 0 (lit< tt) refl) q2 in
    All-cons IsNoPart zmetadata document_files (z_no_part zmetadata 1 (lit< tt) refl) q1

-- the key of a chunk is no document's
pub chunk_no_document : (p : Path) (e : ChunkKeyEncoding) (indices : List ℕ) (key : Segments) → key ≡ p ++ chunk_segments e indices → IsNoDocument key
chunk_no_document p e indices key is = λ q file held at.
    let last : last_segment (p ++ chunk_segments e indices) ≡ file = ap last_segment (sym is ∙ at) ∙ last_behind q file [] in
    All-contains IsNoPart (zmetadata ∷ document_files) file files_no_parts held (subst IsPart last (last_part_behind p (chunk_segments e indices) (chunk_are_parts e indices)))

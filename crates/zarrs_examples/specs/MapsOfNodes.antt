-- Zarr core specification 3.1, "Hierarchy" and "Metadata": stores of which one shows the nodes of the other, each
-- with metadata that a map makes of its own.
-- A hierarchy of version 2 becomes one of version 3 in this way.
-- <https://zarr-specs.readthedocs.io/en/latest/v3/core/index.html#hierarchy>
-- <https://zarr-specs.readthedocs.io/en/latest/v3/core/index.html#metadata>
--     GoesOver f x y      y is what the map f makes of the meaning x
--     ShowsMapped f b S v T w      what T shows from b on by the version w is what S shows by v, under the map f; and
-- nothing below b is bad
--     AreDocumentsOf f N ds      ds are documents of version 3 for the nodes of version 2 among N
--     HasNoVersion3From S b      no path from b on has a `zarr.json`
--     with_documents S ds, without_keys S ks      the store once these are set; once these are erased
--     StandsBeside S key      the key is that of a document of version 2 beside a `zarr.json`
use Rattle.std.specs.Prelude.{◌≡◌, ◌≢◌, ◌↔◌, ◌⊎◌, ℕ, true, false, List, [], ◌∷◌, ◌++◌, Option, Some, None, Contains}
use Rattle.std.specs.Prelude.{map}
use Rattle.std.specs.FinMap as store
use Rattle.std.specs.List.{flat_map}
use Rattle.std.specs.Global.{Vec}
use Rattle.std.specs.declared.cmp.Ordering.TheVariants.{Less}
use Rattle.zarrs_fault.specs.declared.numbers.Numbers.TheVariants.{Whole}
use Rattle.zarrs_store.specs.Segments.{Segments}
use Rattle.zarrs_store.specs.Contents.{Contents, with_key, without_key, HasKey, HasBelow, Lists}
use Rattle.zarrs_path.specs.Keys.{zarr_json, zarray, zgroup, zattrs, zmetadata}
use Rattle.zarrs_path.specs.Paths.{Path, path_cmp}
use Rattle.zarrs_meta.specs.Node.{is_group}
use Rattle.zarrs_meta.specs.NodeDocuments.{ReadsAs, is_version_3}
use Rattle.zarrs_meta.specs.declared.node.NodeMetadata.{NodeMetadata}
use Rattle.zarrs_config.specs.declared.version.MetadataRetrieveVersion.{MetadataRetrieveVersion}
use Rattle.zarrs_config.specs.declared.version.MetadataRetrieveVersion.TheVariants.{Default, V3, V2}
use Rattle.zarrs_meaning.specs.Meaning.{Meaning, meaning, node, nothing, bad}
use Rattle.zarrs_meaning.specs.declared.node_create_error.NodeCreateError.{NodeCreateError}
use Rattle.zarrs_node.specs.Nodes.{StandsFrom, NodesFrom, Nodes, HasNothingBad, IsBadName}
use Rattle.zarrs_node.specs.Order.{Ascend}
use Rattle.zarrs_meaning.specs.Meaning.{Pair}

-- ---- a node in front of those below it

-- A node in front of the nodes below it, as they are listed, is a list of the nodes from it on, in the order of paths.
abbrev pub BaseInFront : Type 0
BaseInFront = (s : Contents) (v : MetadataRetrieveVersion) (b : Path) (m : NodeMetadata) (es : List Pair)
    → meaning s v b ≡ node m → Lists (Nodes s v true b) es → Ascend es
    → ((e : Pair) → Contains ((b, m) ∷ es) e ↔ NodesFrom s v b e) × Ascend ((b, m) ∷ es)

-- In an ascending list a pair whose path is before that of another stands before it.
abbrev pub EarlierStandsBefore : Type 0
EarlierStandsBefore = (before after : List Pair) (x e : Pair)
    → Ascend (before ++ x ∷ after) → Contains (before ++ x ∷ after) e → path_cmp e.0 x.0 ≡ Less → Contains before e

-- ---- maps of metadata

-- the paths of N, each with what f makes of its metadata
abbrev pub IsMapped : (NodeMetadata → Option NodeMetadata) → (Pair → Type 0) → Pair → Type 0
IsMapped f N e = (m : NodeMetadata) × N (e.0, m) × (f m ≡ Some e.1)

-- f makes groups of groups and arrays of arrays
abbrev pub KeepsKinds : (NodeMetadata → Option NodeMetadata) → Type 0
KeepsKinds f = (m c : NodeMetadata) → f m ≡ Some c → is_group c ≡ is_group m

-- what a path means goes over by f: a node into what f makes of it, nothing into nothing, and what is bad into the
-- same refusal or into nothing
abbrev pub GoesOver : (NodeMetadata → Option NodeMetadata) → Meaning → Meaning → Type 0
GoesOver f (node m) y = (c : NodeMetadata) × (f m ≡ Some c) × (y ≡ node c)
GoesOver f nothing y = y ≡ nothing
GoesOver f (bad e) y = (y ≡ bad e) ⊎ (y ≡ nothing)

-- by the version w the store T shows from b on what S shows by v, under f: what b means goes over, the nodes below b
-- are what f makes of those of S, and nothing below b is bad
pub record ShowsMapped (f : NodeMetadata → Option NodeMetadata) (b : Path) (S : Contents) (v : MetadataRetrieveVersion)
    (T : Contents) (w : MetadataRetrieveVersion) : Type 0 where
  pub base : GoesOver f (meaning S v b) (meaning T w b)
  pub nodes : (e : Pair) → Nodes T w true b e ↔ IsMapped f (Nodes S v true b) e
  pub clean : HasNothingBad T w true b

-- T shows from b on what S shows, under a map that keeps kinds, where nothing below b is bad in S, what b and each
-- reached path means goes over,
-- and S has a key below each child of b or of a reached group, with a name of periods only, below which T has one.
abbrev pub MappedIsShown : Type 0
MappedIsShown = (f : NodeMetadata → Option NodeMetadata) → KeepsKinds f
    → (S T : Contents) (v w : MetadataRetrieveVersion) (b : Path) → HasNothingBad S v true b
    → ((p : Path) → StandsFrom S v b p → GoesOver f (meaning S v p) (meaning T w p))
    → ((p : Path) → IsBadName (meaning S v) (HasBelow T.values) true b p → HasBelow S.values p)
    → ShowsMapped f b S v T w

-- Where the numbers of S are whole, and neither b nor anything below it is bad, a store that holds what S holds shows
-- what S shows, whichever numbers its documents may hold.
abbrev pub WholeShowsTheSame : Type 0
WholeShowsTheSame = (S T : Contents) (v : MetadataRetrieveVersion) (b : Path) → S.numbers ≡ Whole → T.values ≡ S.values
    → ((e : NodeCreateError) → meaning S v b ≢ bad e) → HasNothingBad S v true b → ShowsMapped Some b S v T v

-- ---- documents of version 3 beside those of version 2

-- f makes metadata of version 3 of the same kind, and leaves those of version 3 as they are
pub record IsToVersion3 (f : NodeMetadata → Option NodeMetadata) : Type 0 where
  pub kinds : KeepsKinds f
  pub version : (m c : NodeMetadata) → f m ≡ Some c → is_version_3 c ≡ true
  pub stays : (m : NodeMetadata) → is_version_3 m ≡ true → f m ≡ Some m

-- the key and the bytes are those of the document of version 3 that f makes of the pair
abbrev pub IsDocumentFor : (NodeMetadata → Option NodeMetadata) → Pair → Segments × Vec ℕ → Type 0
IsDocumentFor f e d = (c : NodeMetadata) × (f e.1 ≡ Some c) × (d.0 ≡ e.0 ++ zarr_json ∷ []) × ReadsAs d.1.items c

-- each pair of N of version 2 has its document among ds, and each of ds is that of such a pair
pub record AreDocumentsOf (f : NodeMetadata → Option NodeMetadata) (N : Pair → Type 0)
    (ds : List (Segments × Vec ℕ)) : Type 0 where
  pub each : (e : Pair) → N e → is_version_3 e.1 ≡ false → (d : Segments × Vec ℕ) × Contains ds d × IsDocumentFor f e d
  pub only : (d : Segments × Vec ℕ) → Contains ds d
      → (e : Pair) × N e × (is_version_3 e.1 ≡ false) × IsDocumentFor f e d

-- neither b nor a path that is reached from it by default has a document `zarr.json`
abbrev pub HasNoVersion3From : Contents → Path → Type 0
HasNoVersion3From S b = (p : Path) → StandsFrom S Default b p → HasKey S.values (p ++ zarr_json ∷ []) → ⊥

-- the store once the bytes are set at the key of each document, one after another
abbrev pub with_documents : Contents → List (Segments × Vec ℕ) → Contents
with_documents S [] = S
with_documents S (d ∷ ds) = with_documents (with_key S d.0 d.1.items) ds

-- Where nothing below b is bad, and the documents of version 3 are set for the nodes of version 2 from b on,
-- a listing by version 3 and one by default show, as version 3, what one by default showed before.
abbrev pub DocumentsAreShown : Type 0
DocumentsAreShown = (f : NodeMetadata → Option NodeMetadata) → IsToVersion3 f
    → (S : Contents) (b : Path) (ds : List (Segments × Vec ℕ)) → HasNothingBad S Default true b
    → AreDocumentsOf f (NodesFrom S Default b) ds
    → ShowsMapped f b S Default (with_documents S ds) V3 × ShowsMapped f b S Default (with_documents S ds) Default

-- Where S has no document `zarr.json` from b on, a store that shows what S shows by default shows what S shows by
-- version 2.
abbrev pub DefaultIsVersion2 : Type 0
DefaultIsVersion2 = (f : NodeMetadata → Option NodeMetadata) (b : Path) (S T : Contents) (w : MetadataRetrieveVersion)
    → HasNoVersion3From S b → ShowsMapped f b S Default T w → ShowsMapped f b S V2 T w

-- ---- documents of version 2 erased

-- the files of version 2
abbrev pub version_2_files : List (List ℕ)
version_2_files = zarray ∷ zgroup ∷ zattrs ∷ zmetadata ∷ []

-- the key is that of a document of version 2 of a path that has a `zarr.json`
abbrev pub StandsBeside : Contents → Segments → Type 0
StandsBeside S key =
    (p : Path) × (file : List ℕ) × Contains version_2_files file × (key ≡ p ++ file ∷ [])
    × HasKey S.values (p ++ zarr_json ∷ [])

-- the store once each key is erased, one after another
abbrev pub without_keys : Contents → List Segments → Contents
without_keys S [] = S
without_keys S (k ∷ ks) = without_keys (without_key S k) ks

-- the keys of the documents of version 2 at a path
abbrev pub version_2_keys : Path → List Segments
version_2_keys p = map (λ file. p ++ file ∷ []) version_2_files

-- the keys of the documents of version 2 at the paths of some pairs
abbrev pub keys_beside : List Pair → List Segments
keys_beside es = flat_map (λ e. version_2_keys e.0) es

-- The keys of the documents of version 2 at the paths of nodes of version 3 stand beside a `zarr.json`.
abbrev pub KeysStandBeside : Type 0
KeysStandBeside = (S : Contents) (es : List Pair) → ((e : Pair) → Contains es e → meaning S V3 e.0 ≡ node e.1)
    → (key : Segments) → Contains (keys_beside es) key → StandsBeside S key

-- A key that is not among those set has what it had, and so has one that is not among those erased.
abbrev pub OthersAreKept : Type 0
OthersAreKept = (S : Contents) (key : Segments)
    → ((ds : List (Segments × Vec ℕ)) → ((d : Segments × Vec ℕ) → Contains ds d → d.0 ≢ key)
    → store.get (with_documents S ds).values key ≡ store.get S.values key)
    × ((ks : List Segments) → (Contains ks key → ⊥) → store.get (without_keys S ks).values key ≡ store.get S.values key)

-- Once the documents of version 2 at the paths of some pairs are erased, no such key is there.
abbrev pub ErasedAreAbsent : Type 0
ErasedAreAbsent = (S : Contents) (es : List Pair) (e : Pair) (file : List ℕ)
    → Contains es e → Contains version_2_files file
    → store.get (without_keys S (keys_beside es)).values (e.0 ++ file ∷ []) ≡ None

-- Where a store differs from another only by documents of version 2 beside a `zarr.json`, each path means by default
-- what it meant.
abbrev pub BesideMeansSame : Type 0
BesideMeansSame =
    (S T : Contents) → T.numbers ≡ S.numbers
    → ((key : Segments) → (StandsBeside S key → ⊥) → store.get T.values key ≡ store.get S.values key)
    → (p : Path) → meaning T Default p ≡ meaning S Default p

-- Where nothing below b is bad, and only documents of version 2 beside a `zarr.json` are erased, a listing by default
-- shows what it showed.
abbrev pub ErasedShowSame : Type 0
ErasedShowSame = (S : Contents) (ks : List Segments) → ((key : Segments) → Contains ks key → StandsBeside S key)
    → (b : Path) → HasNothingBad S Default true b → ShowsMapped Some b S Default (without_keys S ks) Default

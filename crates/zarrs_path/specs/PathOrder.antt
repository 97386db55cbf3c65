-- Zarr core specification 3.1, "Paths": the laws of the order and the equality of paths, which are those of lists of
-- names.
-- <https://zarr-specs.readthedocs.io/en/latest/v3/core/index.html#path>
use Rattle.std.specs.Prelude.{◌≡◌, IsTrue, refl}
use Rattle.std.specs.Bool.{Decides}
use Rattle.std.specs.Ordering.{eq_by_cmp, nat_cmp}
use Rattle.std.specs.Cmp.{IsTotalOrder, IsPartialOrder, IsEquivalence, po}
use Rattle.std.specs.Cmp.Lexicographic.{slice_cmp, lists_ties, lists_total, lists_equiv, texts_ties, nat_list_cmp_total}
use Rattle.std.specs.Cmp.Lexicographic.{nat_list_eq_equiv}
use Rattle.std.specs.Prelude.{Some}
use Rattle.std.specs.Hash as fed
use Rattle.std.proofs.Common.{ap}
use Rattle.std.proofs.lemmas.Slice.Eq.{slice_eq-Decides, bytes_eq-Decides}
use Rattle.zarrs_path.specs.Paths.{Path, path_text, path_cmp, path_eq}

-- equality answers whether two paths have the same names
pub path_decides : (p q : Path) → Decides (path_eq p q) (p ≡ q)
path_decides p q = slice_eq-Decides bytes_eq-Decides p q (path_eq p q) refl

-- paths are equal exactly where the order has them level
pub path_ties : (p q : Path) → path_eq p q ≡ eq_by_cmp path_cmp p q
path_ties = lists_ties (slice_cmp nat_cmp) texts_ties

-- the order is total
pub path_total : IsTotalOrder path_cmp
path_total = lists_total nat_list_cmp_total

-- equality is an equivalence
pub path_equiv : IsEquivalence path_eq
path_equiv = lists_equiv nat_list_eq_equiv

-- the order and the equality are a partial order
pub path_po : IsPartialOrder path_eq (λ p q. Some (path_cmp p q))
path_po = po path_total path_ties

-- equal paths are hashed alike
pub path_hash : (p q : Path) → IsTrue (path_eq p q) → fed.str (path_text p) ≡ fed.str (path_text q)
path_hash p q e = ap (λ r. fed.str (path_text r)) ((path_decides p q).0 e)

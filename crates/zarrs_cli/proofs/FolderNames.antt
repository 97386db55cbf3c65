-- The names of folders that hints show.
use Rattle.std.proofs.Common.{◌≡◌, ◌≢◌, inl, inr, ◌++◌, ℕ, List, [], ◌∷◌, codes, MatchOption, Option, Some, None, Bor, unwrap_or, sym, ap, ◌∙◌}
use Rattle.zarrs_path.specs.Paths.{Path, IsPath}
use Rattle.zarrs_cli.specs.RefusalLines.{IsFolderName, IsNowhereInFolder, nowhere_text, store_text}
use Rattle.zarrs_cli.specs.StepsOfConsolidations.{IsNodeFolder}

-- what `strip_suffix('/').unwrap_or(folder)` gives
pub folder_name_is : (folder : List ℕ) (found : Option (Bor (List ℕ))) (whole name : Bor (List ℕ))
    → MatchOption found ((front : List ℕ) → folder ≢ front ++ 47 ∷ []) (λ x. folder ≡ x.now ++ 47 ∷ [])
    → whole.now ≡ folder → name ≡ unwrap_or found whole → IsFolderName folder name.now
folder_name_is folder (Some x) whole name cut same is = inl (cut ∙ ap (λ b. b.now ++ 47 ∷ []) (sym is))
folder_name_is folder None whole name none same is = inr (none, ap (λ b. b.now) is ∙ same)

-- the name of a folder and a path that is not the root's are the folder of the node at the path
pub node_folder : (folder path name place : List ℕ) → path ≢ codes "/" → IsFolderName folder name → place ≡ name ++ path → IsNodeFolder folder path place
node_folder folder path name place other is said = inr (other, (name, is, said))

-- what is said of a path without a node, and behind it where a store stands, is a hint
pub stands_below : (folder path none name hint : List ℕ) (below : Path) → none ≡ nowhere_text path folder → IsFolderName folder name → IsPath below
    → hint ≡ none ++ store_text name below → IsNowhereInFolder folder path hint
stands_below folder path none name hint below same is valid said = inr (name, below, is, valid, said ∙ ap (λ t. t ++ store_text name below) same)

-- What calls add to those before them.
use Rattle.std.proofs.Common.{◌≡◌, ◌⊎◌, Bool, true, List, [], ◌∷◌, ◌++◌, Option, Some, None, Result, Ok, Err, sym, ◌∙◌, ap, subst, inl, inr, append_assoc}
use Rattle.std.specs.Prelude.{IfSome, OnOk, OnErr, if◌then◌else◌}
use Rattle.std.proofs.lemmas.List.{append-nil}
use Rattle.zarrs_write.specs.Calls.{Name, Bytes, Asked, did, failed, found, created, removed, Adds, AddsSome}
use Rattle.zarrs_write.specs.StepsOfReplacing.{IsUnfilled, IsStopped}
use Rattle.zarrs_write.specs.declared.fault.Step.TheVariants.{Reading, Making, Keeping, Writing, Syncing, ReadingAgain, Renaming, Removing}
use Rattle.zarrs_write.specs.declared.stop.Stop.{Stop}
use Rattle.zarrs_write.specs.declared.stop.Stop.TheVariants.{LeftOver, Changed, Failed, Unsettled}

-- where nothing was asked, no calls are behind those before
pub nothing_asked : (before : Option (List Asked)) (P : List Asked → Type 0) → P [] → AddsSome before before P
nothing_asked None P h = tt
nothing_asked (Some asked) P h = ([], ap Some (sym (append-nil asked)), h)

-- some calls of which one fact holds are such of which what follows holds
pub some_become : (x y : Option (List Asked)) (P Q : List Asked → Type 0) → AddsSome x y P → ((m : List Asked) → P m → Q m) → AddsSome x y Q
some_become None y P Q h f = tt
some_become (Some a) y P Q h f = (h.0, h.1, f h.0 h.2)

-- calls, and calls behind them
adds_adds : (x y z : Option (List Asked)) (m n : List Asked) → Adds x y m → Adds y z n → Adds x z (m ++ n)
adds_adds None y z m n h k = tt
adds_adds (Some a) y z m n h k =
    let k' : z ≡ Some ((a ++ m) ++ n) = subst (λ w. IfSome w (λ asked. z ≡ Some (asked ++ n))) h k in k' ∙ ap Some (append_assoc a m n)

-- calls, and some behind them
adds_some : (x y z : Option (List Asked)) (m : List Asked) (P Q : List Asked → Type 0) → Adds x y m → AddsSome y z P
    → ((n : List Asked) → P n → Q (m ++ n)) → AddsSome x z Q
adds_some None y z m P Q h k f = tt
adds_some (Some a) y z m P Q h k f =
    let k' : (n : List Asked) × (z ≡ Some ((a ++ m) ++ n)) × P n = subst (λ w. AddsSome w z P) h k in
    (m ++ k'.0, k'.1 ∙ ap Some (append_assoc a m k'.0), f k'.0 k'.2)

-- some calls, and these behind them
some_adds : (x y z : Option (List Asked)) (n : List Asked) (P Q : List Asked → Type 0) → AddsSome x y P → Adds y z n
    → ((m : List Asked) → P m → Q (m ++ n)) → AddsSome x z Q
some_adds None y z n P Q h k f = tt
some_adds (Some a) y z n P Q h k f =
    let k' : z ≡ Some ((a ++ h.0) ++ n) = subst (λ w. IfSome w (λ asked. z ≡ Some (asked ++ n))) h.1 k in
    (h.0 ++ n, k' ∙ ap Some (append_assoc a h.0 n), f h.0 h.2)

-- an answer has the one fact or the other
pub either_way : {T E A B : Type 0} (r : Result T E) → OnOk r A → OnErr r B → A ⊎ B
either_way (Ok x) a b = inl a
either_way (Err e) a b = inr b

-- what was asked where a test is true
pub where_true : (x y : Option (List Asked)) (b : Bool) (m n : List Asked) → b ≡ true → Adds x y (if b then m else n) → Adds x y m
where_true x y b m n e h = subst (λ t. Adds x y (if t then m else n)) e h

module _ (old : Option Bytes) (temp name : Name) (bytes : Bytes) where
  -- the calls before the filling
  abbrev begun : List Asked
  begun = did (found name old) ∷ did (created temp) ∷ []

  -- a filling that stops, and the removal of the temporary file, are a replacement that stops
  cleared_did : (stop : Stop) (m : List Asked) → IsUnfilled stop old temp name bytes m
      → IsStopped stop old temp name bytes (begun ++ (m ++ did (removed temp) ∷ []))
  cleared_did LeftOver m h = absurd h
  cleared_did Changed m h = (h.0, h.1, inr (inl (ap (λ k. begun ++ (k ++ did (removed temp) ∷ [])) h.2)))
  cleared_did (Failed Reading why) m h = absurd h
  cleared_did (Failed Making why) m h = absurd h
  cleared_did (Failed Keeping why) m h = inl (ap (λ k. begun ++ (k ++ did (removed temp) ∷ [])) h)
  cleared_did (Failed Writing why) m h = inl (ap (λ k. begun ++ (k ++ did (removed temp) ∷ [])) h)
  cleared_did (Failed Syncing why) m h = inl (ap (λ k. begun ++ (k ++ did (removed temp) ∷ [])) h)
  cleared_did (Failed ReadingAgain why) m h = inl (ap (λ k. begun ++ (k ++ did (removed temp) ∷ [])) h)
  cleared_did (Failed Renaming why) m h = inl (ap (λ k. begun ++ (k ++ did (removed temp) ∷ [])) h)
  cleared_did (Failed Removing why) m h = absurd h
  cleared_did (Unsettled why) m h = absurd h

  -- and where that removal fails
  cleared_failed : (stop : Stop) (m : List Asked) → IsUnfilled stop old temp name bytes m
      → IsStopped stop old temp name bytes (begun ++ (m ++ failed (removed temp) ∷ []))
  cleared_failed LeftOver m h = absurd h
  cleared_failed Changed m h = (h.0, h.1, inr (inr (ap (λ k. begun ++ (k ++ failed (removed temp) ∷ [])) h.2)))
  cleared_failed (Failed Reading why) m h = absurd h
  cleared_failed (Failed Making why) m h = absurd h
  cleared_failed (Failed Keeping why) m h = inr (ap (λ k. begun ++ (k ++ failed (removed temp) ∷ [])) h)
  cleared_failed (Failed Writing why) m h = inr (ap (λ k. begun ++ (k ++ failed (removed temp) ∷ [])) h)
  cleared_failed (Failed Syncing why) m h = inr (ap (λ k. begun ++ (k ++ failed (removed temp) ∷ [])) h)
  cleared_failed (Failed ReadingAgain why) m h = inr (ap (λ k. begun ++ (k ++ failed (removed temp) ∷ [])) h)
  cleared_failed (Failed Renaming why) m h = inr (ap (λ k. begun ++ (k ++ failed (removed temp) ∷ [])) h)
  cleared_failed (Failed Removing why) m h = absurd h
  cleared_failed (Unsettled why) m h = absurd h

  -- the calls of a replacement whose filling stops
  pub stopped : (a b c d e : Option (List Asked)) (stop : Stop) → Adds a b (did (found name old) ∷ [])
      → Adds b c (did (created temp) ∷ []) → AddsSome c d (IsUnfilled stop old temp name bytes)
      → Adds d e (did (removed temp) ∷ []) ⊎ Adds d e (failed (removed temp) ∷ []) → AddsSome a e (IsStopped stop old temp name bytes)
  stopped a b c d e stop h k m (inl r) =
      adds_some a c e begun _ _ (adds_adds a b c _ _ h k)
      (some_adds c d e (did (removed temp) ∷ []) _ (λ n. IsStopped stop old temp name bytes (begun ++ n)) m r (cleared_did stop)) (λ n p. p)
  stopped a b c d e stop h k m (inr r) =
      adds_some a c e begun _ _ (adds_adds a b c _ _ h k)
      (some_adds c d e (failed (removed temp) ∷ []) _ (λ n. IsStopped stop old temp name bytes (begun ++ n)) m r (cleared_failed stop)) (λ n p. p)

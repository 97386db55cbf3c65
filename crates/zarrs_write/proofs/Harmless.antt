-- That a replacement and a removal harm nothing.
use Rattle.std.specs.Prelude.{⊤}
use Rattle.std.proofs.Common.{◌≡◌, ◌≢◌, ◌⊎◌, ℕ, ◌+◌, List, [], ◌∷◌, ◌++◌, length, codes, Option, Some, None, refl, sym, ◌∙◌, ap, subst, inl, inr, arith, length-append}
use Rattle.zarrs_write.specs.Calls.{Name, Bytes, Call, found, created, stood, kept, wrote, synced, renamed, settled, removed, Asked, did, failed}
use Rattle.zarrs_write.specs.Crashes.{File, first, made, Folder, first_file, first_folder, also_at, after_done, after_failed, NoFile, IsIn, FindsEither, FindsOnly, AtEachPoint}
use Rattle.zarrs_write.specs.ReplacingDocuments.{temporary, IsBrokenOffAt, IsBrokenOff}
use Rattle.zarrs_write.specs.Laws.{IsReplacement, ReplacedIsWhole, UnsyncedMayBeAnything}
use Rattle.zarrs_write.specs.declared.fault.Step.{Step}
use Rattle.zarrs_write.specs.declared.fault.Step.TheVariants.{Reading, Making, Keeping, Writing, Syncing, ReadingAgain, Renaming, Removing}
use Rattle.zarrs_write.specs.declared.fault.ReplaceError.{ReplaceError}
use Rattle.zarrs_write.specs.declared.fault.ReplaceError.TheVariants.{LeftOver, Changed, Failed, Unsettled, OutOfMemory}
use Rattle.zarrs_write.specs.declared.replace.Replaced.TheVariants.{Unchanged, Written}

-- at another key the set is the same
but_other : {K A B : Type 0} (key k : K) → k ≢ key → ((k ≡ key) × A) ⊎ ((k ≢ key) × B) → B
but_other key k h (inl p) = absurd (h p.0)
but_other key k h (inr p) = p.1

-- at the key it is the one set
but_same : {K A B : Type 0} (key : K) → ((key ≡ key) × A) ⊎ ((key ≢ key) × B) → A
but_same key (inl p) = p.1
but_same key (inr p) = absurd (p.0 refl)

-- at another key nothing joins the set
also_other : {K A B : Type 0} (key k : K) → k ≢ key → ((k ≡ key) × A) ⊎ B → B
also_other key k h (inl p) = absurd (h p.0)
also_other key k h (inr p) = p

-- at any key a member is one of the set that joins, or was one
also_any : {K A B : Type 0} (key k : K) → ((k ≡ key) × A) ⊎ B → A ⊎ B
also_any key k (inl p) = inl p.1
also_any key k (inr p) = inr p

-- a file that stood there at first was not made
first≢made : (n : Name) (k : ℕ) → first n ≢ made k
first≢made n k e = cc

-- what is found in the file that stood there at first is what it held
seen_first : (o : Option Bytes) (n : Name) (sets : File → Bytes → Type 0) (seen : Option Bytes)
    → ((b : Bytes) → sets (first n) b → o ≡ Some b) → IsIn sets (first_file n o) seen → seen ≡ o
seen_first None n sets seen h i = i
seen_first (Some a) n sets seen h i = i.1 ∙ sym (h i.0 i.2)

-- the same where the file is equal to that
seen_in : (F : Name → Option Bytes) (n : Name) (sets : File → Bytes → Type 0) (seen : Option Bytes) (f : Option File)
    → ((b : Bytes) → sets (first n) b → F n ≡ Some b)
    → f ≡ first_file n (F n) → IsIn sets f seen → seen ≡ F n
seen_in F n sets seen f h e i = seen_first (F n) n sets seen h (subst (λ g. IsIn sets g seen) e i)

-- a temporary file has another name than its document
pub other_name : (name : Name) → temporary name ≢ name
other_name name e = omega (arith, ap length e, length-append name (codes ".zarrs_new"))

module _ (F : Name → Option Bytes) (temp : Name) where
  -- except for the temporary name, all is as it was at first
  record Unharmed (s : Folder) : Type 0 where
    pub stands : (n : Name) → n ≢ temp → (f : Option File) → s.stands n f → f ≡ first_file n (F n)
    pub stays : (n : Name) → n ≢ temp → (f : Option File) → s.stays n f → f ≡ first_file n (F n)
    pub holds : (n : Name) (b : Bytes) → s.holds (first n) b → F n ≡ Some b
    pub keeps : (n : Name) (b : Bytes) → s.keeps (first n) b → F n ≡ Some b

  -- a call that touches no name but the temporary one
  abbrev IsBeside : Call → Type 0
  IsBeside (created n) = n ≡ temp
  IsBeside (removed n) = n ≡ temp
  IsBeside (renamed from to) = ⊥
  IsBeside _ = ⊤

  -- all of the calls touch no other name
  abbrev AllBeside : List Asked → Type 0
  AllBeside [] = ⊤
  AllBeside (did c ∷ rest) = IsBeside c × AllBeside rest
  AllBeside (failed c ∷ rest) = IsBeside c × AllBeside rest

  -- at first nothing is harmed
  unharmed_first : Unharmed (first_folder F)
  unharmed_first = record { stands = λ n h f e. e; stays = λ n h f e. e; holds = λ n b e. e; keeps = λ n b e. e }

  -- a call beside, done, harms nothing
  unharmed_done : (s : Folder) (c : Call) → IsBeside c → Unharmed s → Unharmed (after_done s c)
  unharmed_done s (found n b) i u = u
  unharmed_done s (created n) i u = record {
    stands = λ m h f x. u.stands m h f (but_other n m (λ e. h (e ∙ i)) x);
    stays = λ m h f x. u.stays m h f (also_other n m (λ e. h (e ∙ i)) x);
    holds = λ m b x. u.holds m b (but_other (made (s.count + 1)) (first m) (first≢made m _) x);
    keeps = λ m b x. u.keeps m b (but_other (made (s.count + 1)) (first m) (first≢made m _) x);
  }
  unharmed_done s (stood n) i u = u
  unharmed_done s (kept n) i u = u
  unharmed_done s (wrote bytes) i u = record {
    holds = λ m b x. u.holds m b (but_other (made s.count) (first m) (first≢made m _) x);
    keeps = λ m b x. u.keeps m b (but_other (made s.count) (first m) (first≢made m _) x);
    stands = u.stands;
    stays = u.stays;
  }
  unharmed_done s synced i u = record {
    keeps = λ m b x. u.keeps m b (but_other (made s.count) (first m) (first≢made m _) x);
    stands = u.stands;
    stays = u.stays;
    holds = u.holds;
  }
  unharmed_done s (renamed from to) i u = absurd i
  unharmed_done s settled i u = record { stays = u.stands; stands = u.stands; holds = u.holds; keeps = u.keeps }
  unharmed_done s (removed n) i u = record {
    stands = λ m h f x. u.stands m h f (but_other n m (λ e. h (e ∙ i)) x);
    stays = λ m h f x. u.stays m h f (also_other n m (λ e. h (e ∙ i)) x);
    holds = u.holds;
    keeps = u.keeps;
  }

  -- a call beside that failed harms nothing
  unharmed_failed : (s : Folder) (c : Call) → IsBeside c → Unharmed s → Unharmed (after_failed s c)
  unharmed_failed s (found n b) i u = u
  unharmed_failed s (created n) i u = record {
    stands = λ m h f x. u.stands m h f (also_other n m (λ e. h (e ∙ i)) x);
    stays = λ m h f x. u.stays m h f (also_other n m (λ e. h (e ∙ i)) x);
    holds = λ m b x. u.holds m b (but_other (made (s.count + 1)) (first m) (first≢made m _) x);
    keeps = λ m b x. u.keeps m b (but_other (made (s.count + 1)) (first m) (first≢made m _) x);
  }
  unharmed_failed s (stood n) i u = u
  unharmed_failed s (kept n) i u = u
  unharmed_failed s (wrote bytes) i u = record {
    holds = λ m b x. u.holds m b (but_other (made s.count) (first m) (first≢made m _) x);
    keeps = λ m b x. u.keeps m b (but_other (made s.count) (first m) (first≢made m _) x);
    stands = u.stands;
    stays = u.stays;
  }
  unharmed_failed s synced i u = u
  unharmed_failed s (renamed from to) i u = absurd i
  unharmed_failed s settled i u = u
  unharmed_failed s (removed n) i u = record {
    stands = λ m h f x. u.stands m h f (also_other n m (λ e. h (e ∙ i)) x);
    stays = λ m h f x. u.stays m h f (also_other n m (λ e. h (e ∙ i)) x);
    holds = u.holds;
    keeps = u.keeps;
  }

  -- where nothing is harmed, nothing else is found at another name
  unharmed_only : (s : Folder) → Unharmed s → (n : Name) → n ≢ temp → FindsOnly s n (F n)
  unharmed_only s u n h seen (inl p) = seen_in F n s.holds seen p.0 (u.holds n) (u.stands n h p.0 p.1) p.2
  unharmed_only s u n h seen (inr p) = seen_in F n s.keeps seen p.0 (u.keeps n) (u.stays n h p.0 p.1) p.2

  -- calls beside harm nothing at any point
  beside_each : (P : Folder → Type 0) → ((s : Folder) → Unharmed s → P s)
      → (asked : List Asked) → AllBeside asked → (s : Folder) → Unharmed s → AtEachPoint P s asked
  beside_each P p [] a s u = p s u
  beside_each P p (did c ∷ rest) a s u =
      (p s u, p _ (unharmed_failed s c a.0 u), beside_each P p rest a.1 (after_done s c) (unharmed_done s c a.0 u))
  beside_each P p (failed c ∷ rest) a s u = (p s u, beside_each P p rest a.1 (after_failed s c) (unharmed_failed s c a.0 u))

-- At the name stands what stood there at first, or a new file or none, in which only the new bytes are found; at all other names what stood there.
module _ (F : Name → Option Bytes) (temp name : Name) (new : Option File) (shown : Option Bytes) where
  -- the folder has, at the name and at all others, what is said above
  record Whole (s : Folder) : Type 0 where
    pub stands : (f : Option File) → s.stands name f → (f ≡ first_file name (F name)) ⊎ (f ≡ new)
    pub stays : (f : Option File) → s.stays name f → (f ≡ first_file name (F name)) ⊎ (f ≡ new)
    pub others : (n : Name) → n ≢ name → n ≢ temp → (f : Option File) → s.stands n f → f ≡ first_file n (F n)
    pub others_stay : (n : Name) → n ≢ name → n ≢ temp → (f : Option File) → s.stays n f → f ≡ first_file n (F n)
    pub holds : (n : Name) (b : Bytes) → s.holds (first n) b → F n ≡ Some b
    pub keeps : (n : Name) (b : Bytes) → s.keeps (first n) b → F n ≡ Some b
    pub new_holds : (seen : Option Bytes) → IsIn s.holds new seen → seen ≡ shown
    pub new_keeps : (seen : Option Bytes) → IsIn s.keeps new seen → seen ≡ shown

  -- where one of two files stands, the bytes of one of the two are found
  either : (sets : File → Bytes → Type 0) (seen : Option Bytes) (f : Option File) → ((b : Bytes) → sets (first name) b → F name ≡ Some b)
      → ((o : Option Bytes) → IsIn sets new o → o ≡ shown) → (f ≡ first_file name (F name)) ⊎ (f ≡ new) → IsIn sets f seen
      → (seen ≡ F name) ⊎ (seen ≡ shown)
  either sets seen f h k (inl e) i = inl (seen_in F name sets seen f h e i)
  either sets seen f h k (inr e) i = inr (k seen (subst (λ g. IsIn sets g seen) e i))

  -- at the name the bytes of one of the two files are found
  whole_either : (s : Folder) → Whole s → FindsEither s name (F name) shown
  whole_either s w seen (inl p) = either s.holds seen p.0 (w.holds name) w.new_holds (w.stands p.0 p.1) p.2
  whole_either s w seen (inr p) = either s.keeps seen p.0 (w.keeps name) w.new_keeps (w.stays p.0 p.1) p.2

  -- at another name nothing is found but what stood there
  whole_others : (s : Folder) → Whole s → (n : Name) → n ≢ name → n ≢ temp → FindsOnly s n (F n)
  whole_others s w n h k seen (inl p) = seen_in F n s.holds seen p.0 (w.holds n) (w.others n h k p.0 p.1) p.2
  whole_others s w n h k seen (inr p) = seen_in F n s.keeps seen p.0 (w.keeps n) (w.others_stay n h k p.0 p.1) p.2

  -- it stays so where the folder is synced
  whole_settled : (s : Folder) → Whole s → Whole (after_done s settled)
  whole_settled s w = record {
    stays = w.stands;
    others_stay = w.others;
    stands = w.stands;
    others = w.others;
    holds = w.holds;
    keeps = w.keeps;
    new_holds = w.new_holds;
    new_keeps = w.new_keeps;
  }

  -- it stays so where the temporary file is removed
  whole_cleared : (s : Folder) → name ≢ temp → Whole s → Whole (after_done s (removed temp))
  whole_cleared s h w = record {
    stands = λ f x. w.stands f (but_other temp name h x);
    stays = λ f x. w.stays f (also_other temp name h x);
    others = λ n j k f x. w.others n j k f (but_other temp n k x);
    others_stay = λ n j k f x. w.others_stay n j k f (also_other temp n k x);
    holds = w.holds;
    keeps = w.keeps;
    new_holds = w.new_holds;
    new_keeps = w.new_keeps;
  }

  -- and where that fails
  whole_uncleared : (s : Folder) → name ≢ temp → Whole s → Whole (after_failed s (removed temp))
  whole_uncleared s h w = record {
    stands = λ f x. w.stands f (also_other temp name h x);
    stays = λ f x. w.stays f (also_other temp name h x);
    others = λ n j k f x. w.others n j k f (also_other temp n k x);
    others_stay = λ n j k f x. w.others_stay n j k f (also_other temp n k x);
    holds = w.holds;
    keeps = w.keeps;
    new_holds = w.new_holds;
    new_keeps = w.new_keeps;
  }

-- The replacement of a document.
module _ (F : Name → Option Bytes) (name : Name) (bytes : Bytes) where
  -- the name of the temporary file
  abbrev temp : Name
  temp = temporary name

  -- what holds at each point of a replacement
  abbrev IsSafe : Folder → Type 0
  IsSafe s = FindsEither s name (F name) (Some bytes) × ((n : Name) → n ≢ name → n ≢ temp → FindsOnly s n (F n))

  -- the folder is safe at each point of the calls
  abbrev IsSafeAlong : List Asked → Type 0
  IsSafeAlong asked = AtEachPoint IsSafe (first_folder F) asked

  -- the document's name is another
  name≢temp : name ≢ temp
  name≢temp e = other_name name (sym e)

  -- a folder in which nothing is harmed is safe
  safe_unharmed : (s : Folder) → Unharmed F temp s → IsSafe s
  safe_unharmed s u = (λ seen h. inl (unharmed_only F temp s u name name≢temp seen h), λ n h k. unharmed_only F temp s u n k)

  -- calls beside the document are safe
  beside : (asked : List Asked) → AllBeside F temp asked → IsSafeAlong asked
  beside asked a = beside_each F temp IsSafe safe_unharmed asked a (first_folder F) (unharmed_first F temp)

  -- at the document's name stands what stood there, or the new file, in which only the new bytes are found
  abbrev IsRenamed : Folder → Type 0
  IsRenamed = Whole F temp name (Some (made 1)) (Some bytes)

  -- a folder of which this holds is safe
  safe_renamed : (s : Folder) → IsRenamed s → IsSafe s
  safe_renamed s w =
      (whole_either F temp name (Some (made 1)) (Some bytes) s w, whole_others F temp name (Some (made 1)) (Some bytes) s w)

  -- the folder before the renaming
  abbrev prepared : Folder
  prepared = after_done (after_done (after_done (first_folder F) (created temp)) (wrote bytes)) synced

  -- nothing is harmed there
  prepared_unharmed : Unharmed F temp prepared
  prepared_unharmed =
      unharmed_done F temp _ synced tt (unharmed_done F temp _ (wrote bytes) tt
      (unharmed_done F temp (first_folder F) (created temp) refl (unharmed_first F temp)))

  -- the temporary file stands at its name
  prepared_stands : (f : Option File) → prepared.stands temp f → f ≡ Some (made 1)
  prepared_stands f x = elim x [ inl p ↦ p.1 | inr p ↦ absurd (p.0 refl) ]

  -- it holds the new bytes
  prepared_holds : (b : Bytes) → prepared.holds (made 1) b → b ≡ bytes
  prepared_holds b x = elim x [
    | inl p ↦ (elim p.1.1 [ inl q ↦ p.1.2 ∙ ap (λ a. a ++ bytes) q.1 | inr q ↦ absurd (q.0 refl) ])
    | inr p ↦ absurd (p.0 refl)
  ]

  -- it keeps them
  prepared_keeps : (b : Bytes) → prepared.keeps (made 1) b → b ≡ bytes
  prepared_keeps b x = elim x [ inl p ↦ prepared_holds b p.1 | inr p ↦ absurd (p.0 refl) ]

  -- in it nothing else is found
  new_seen : (sets : File → Bytes → Type 0) → ((b : Bytes) → sets (made 1) b → b ≡ bytes) → (seen : Option Bytes)
      → IsIn sets (Some (made 1)) seen → seen ≡ Some bytes
  new_seen sets h seen i = i.1 ∙ ap Some (h i.0 i.2)

  -- after a crash the old document may stand at the name, or the renamed file
  stays_renamed : (f : Option File) → also_at name (prepared.stands temp) (also_at temp NoFile prepared.stays) name f
      → (f ≡ first_file name (F name)) ⊎ (f ≡ Some (made 1))
  stays_renamed f x = elim (also_any name name x) [
    | inl p ↦ inr (prepared_stands f p)
    | inr p ↦ inl (prepared_unharmed.stays name name≢temp f (also_other temp name name≢temp p))
  ]

  -- after a crash at another name what stood there may stand
  others_stay_renamed : (n : Name) → n ≢ name → n ≢ temp → (f : Option File)
      → also_at name (prepared.stands temp) (also_at temp NoFile prepared.stays) n f → f ≡ first_file n (F n)
  others_stay_renamed n h k f x =
      prepared_unharmed.stays n k f (also_other temp n k (also_other name n h x))

  -- the folder is whole once the temporary file is renamed
  renamed_whole : IsRenamed (after_done prepared (renamed temp name))
  renamed_whole =
      let u = prepared_unharmed in
      record {
        stands = λ f x. inr (prepared_stands f (but_same name x));
        stays = stays_renamed;
        others = λ n h k f x.
            u.stands n k f (but_other temp n k (but_other name n h x));
        others_stay = others_stay_renamed;
        holds = u.holds;
        keeps = u.keeps;
        new_holds = new_seen prepared.holds prepared_holds;
        new_keeps = new_seen prepared.keeps prepared_keeps;
      }

  -- and where that fails
  unrenamed_whole : IsRenamed (after_failed prepared (renamed temp name))
  unrenamed_whole =
      let u = prepared_unharmed in
      record {
        stands = λ f x. elim (also_any name name x) [
          | inl p ↦ inr (prepared_stands f p)
          | inr p ↦ inl (u.stands name name≢temp f (also_other temp name name≢temp p))
        ];
        stays = stays_renamed;
        others = λ n h k f x.
            u.stands n k f (also_other temp n k (also_other name n h x));
        others_stay = others_stay_renamed;
        holds = u.holds;
        keeps = u.keeps;
        new_holds = new_seen prepared.holds prepared_holds;
        new_keeps = new_seen prepared.keeps prepared_keeps;
      }

  -- calls up to the renaming, and those from then on
  along_prepared : (rest : List Asked) → AtEachPoint IsSafe prepared rest
      → IsSafeAlong (did (found name (F name)) ∷ did (created temp) ∷ did (kept name) ∷ did (wrote bytes) ∷ did synced ∷ did (found name (F name)) ∷ rest)
  along_prepared rest h =
      let u0 = unharmed_first F temp in
      let u1 = unharmed_done F temp (first_folder F) (created temp) refl u0 in
      let u2 = unharmed_done F temp _ (wrote bytes) tt u1 in
      let p0 = safe_unharmed _ u0 in
      let p1 = safe_unharmed _ u1 in
      let p2 = safe_unharmed _ u2 in
      let p3 = safe_unharmed _ prepared_unharmed in (
        p0,
        p0,
        (
          p0,
          safe_unharmed _ (unharmed_failed F temp (first_folder F) (created temp) refl u0),
          (
            p1,
            p1,
            (
              p1,
              safe_unharmed _ (unharmed_failed F temp _ (wrote bytes) tt u1),
              (p2, p2, (p3, p3, h)),
            ),
          ),
        ),
      )

  -- the renaming, and what comes behind it
  along_renamed : (rest : List Asked) → AtEachPoint IsSafe (after_done prepared (renamed temp name)) rest
      → AtEachPoint IsSafe prepared (did (renamed temp name) ∷ rest)
  along_renamed rest h = (safe_unharmed _ prepared_unharmed, safe_renamed _ unrenamed_whole, h)

  -- behind the renaming, the settling of it is safe
  written_safe : AtEachPoint IsSafe (after_done prepared (renamed temp name)) (did settled ∷ [])
  written_safe =
      let w = renamed_whole in
      let p = safe_renamed _ w in (p, p, safe_renamed _ (whole_settled F temp name (Some (made 1)) (Some bytes) _ w))

  -- behind the renaming, a settling that fails is safe
  unsettled_safe : AtEachPoint IsSafe (after_done prepared (renamed temp name)) (failed settled ∷ [])
  unsettled_safe = let p = safe_renamed _ renamed_whole in (p, p)

  -- a renaming that fails, and the removal of the temporary file
  cleared_safe : AtEachPoint IsSafe prepared (failed (renamed temp name) ∷ did (removed temp) ∷ [])
  cleared_safe =
      let w = unrenamed_whole in (
        safe_unharmed _ prepared_unharmed,
        (
          safe_renamed _ w,
          safe_renamed _ (whole_uncleared F temp name (Some (made 1)) (Some bytes) _ name≢temp w),
          safe_renamed _ (whole_cleared F temp name (Some (made 1)) (Some bytes) _ name≢temp w),
        ),
      )

  -- a renaming that fails, and a removal of the temporary file that fails, are safe
  uncleared_safe : AtEachPoint IsSafe prepared (failed (renamed temp name) ∷ failed (removed temp) ∷ [])
  uncleared_safe =
      let w = unrenamed_whole in
      (safe_unharmed _ prepared_unharmed, (safe_renamed _ w, safe_renamed _ (whole_uncleared F temp name (Some (made 1)) (Some bytes) _ name≢temp w)))

  -- equal calls are safe together
  along : (asked calls : List Asked) → asked ≡ calls → IsSafeAlong calls → IsSafeAlong asked
  along asked calls e h = subst IsSafeAlong (sym e) h

  -- equal calls beside are safe
  beside_along : {calls : List Asked} (asked : List Asked) → asked ≡ calls → AllBeside F temp calls → IsSafeAlong asked
  beside_along {calls = calls} asked e a = along asked calls e (beside calls a)

  -- calls beside, and the removal of the temporary file
  cleared : {one other : List Asked} (asked : List Asked) → (asked ≡ one) ⊎ (asked ≡ other) → AllBeside F temp one
      → AllBeside F temp other → IsSafeAlong asked
  cleared asked (inl e) a b = beside_along asked e a
  cleared asked (inr e) a b = beside_along asked e b

  -- the calls of a replacement that was broken off at a step are safe
  at_step : (step : Step) (asked : List Asked) → IsBrokenOffAt step (F name) temp name bytes asked → IsSafeAlong asked
  at_step Reading asked h = beside_along asked h (tt, tt)
  at_step Making asked h = beside_along asked h (tt, (refl, tt))
  at_step Keeping asked h = cleared asked h (tt, (refl, (tt, (refl, tt)))) (tt, (refl, (tt, (refl, tt))))
  at_step Writing asked h = cleared asked h (tt, (refl, (tt, (tt, (refl, tt))))) (tt, (refl, (tt, (tt, (refl, tt)))))
  at_step Syncing asked h = cleared asked h (tt, (refl, (tt, (tt, (tt, (refl, tt)))))) (tt, (refl, (tt, (tt, (tt, (refl, tt))))))
  at_step ReadingAgain asked h = cleared asked h (tt, (refl, (tt, (tt, (tt, (tt, (refl, tt))))))) (tt, (refl, (tt, (tt, (tt, (tt, (refl, tt)))))))
  at_step Renaming asked (inl e) = along asked _ e (along_prepared (failed (renamed temp name) ∷ did (removed temp) ∷ []) cleared_safe)
  at_step Renaming asked (inr e) = along asked _ e (along_prepared (failed (renamed temp name) ∷ failed (removed temp) ∷ []) uncleared_safe)
  at_step Removing asked h = absurd h

  -- the calls of a replacement that was broken off are safe
  broken_off : (e : ReplaceError) (asked : List Asked) → IsBrokenOff e (F name) temp name bytes asked → IsSafeAlong asked
  broken_off (LeftOver n) asked h = beside_along asked h (tt, (tt, tt))
  broken_off (Changed n) asked (other, ne, inl e) = beside_along asked e (tt, tt)
  broken_off (Changed n) asked (other, ne, inr h) =
      cleared asked h (tt, (refl, (tt, (tt, (tt, (tt, (refl, tt))))))) (tt, (refl, (tt, (tt, (tt, (tt, (refl, tt)))))))
  broken_off (Failed step n why) asked h = at_step step asked h
  broken_off (Unsettled n why) asked h =
      along asked _ h (along_prepared (did (renamed temp name) ∷ failed settled ∷ []) (along_renamed (failed settled ∷ []) unsettled_safe))
  broken_off OutOfMemory asked (inl h) = beside_along asked h tt
  broken_off OutOfMemory asked (inr h) = at_step h.0 asked h.1

  -- the calls of a replacement are safe
  pub replacement : (asked : List Asked) → IsReplacement (F name) temp name bytes asked → IsSafeAlong asked
  replacement asked (inl (Unchanged, e)) = beside_along asked e (tt, tt)
  replacement asked (inl (Written, e)) =
      along asked _ e (along_prepared (did (renamed temp name) ∷ did settled ∷ []) (along_renamed (did settled ∷ []) written_safe))
  replacement asked (inr (e, h)) = broken_off e asked h

-- a replacement is safe at each point
pub replaced_is_whole : ReplacedIsWhole
replaced_is_whole F name bytes asked h = replacement F name bytes asked h

-- what was renamed before it was synced may be anything after a crash
pub unsynced_may_be_anything : UnsyncedMayBeAnything
unsynced_may_be_anything F name bytes b = (Some (made 1), inl (refl, inl (refl, refl)), (b, refl, inl (refl, tt)))

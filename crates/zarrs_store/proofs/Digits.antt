-- The number of binary digits of a number, and how often what is left can be halved.
use Rattle.std.proofs.Common.{◌≡◌, ℕ, zero, suc, ◌+◌, ◌-◌, ◌*◌, ◌<◌, ◌≤◌, ◌/◌, ap, arith, inl, inr, ◌⊎◌}
use Rattle.std.specs.Prelude.{◌^◌, min, max}
use Rattle.std.proofs.lemmas.Bool.{cases_lt}
use Rattle.std.proofs.lemmas.Nat.{pow_pos, pow_below}
use Rattle.std.proofs.Math.Nat.{pow-succ', pow-zero}
use Rattle.zarrs_store.specs.Places.{digits, digits_up_to}

-- a number is below the power of two of its digits
below_up_to : (most n : ℕ) → n ≤ most → n < 2 ^ digits_up_to most n
below_up_to zero n h = omega (arith, h, pow_pos 0)
below_up_to (suc most) zero h = pow_pos 0
below_up_to (suc most) (suc n) h =
    let half = below_up_to most (suc n / 2) (omega (arith, h)) in
    omega (arith, half, pow-succ' 2 (digits_up_to most (suc n / 2)))

-- a number below a power of two has no more digits
least_up_to : (most n k : ℕ) → n < 2 ^ k → digits_up_to most n ≤ k
least_up_to zero n k h = omega arith
least_up_to (suc most) zero k h = omega arith
least_up_to (suc most) (suc n) zero h = absurd (omega (arith, h, pow-zero 2))
least_up_to (suc most) (suc n) (suc k) h =
    let half = least_up_to most (suc n / 2) k (omega (arith, h, pow-succ' 2 k)) in
    omega (arith, half)

-- there are at most `most` of them
up_to_most : (most n : ℕ) → digits_up_to most n ≤ most
up_to_most zero n = omega arith
up_to_most (suc most) zero = omega arith
up_to_most (suc most) (suc n) = let rest = up_to_most most (suc n / 2) in omega (arith, rest)

-- a number has no more digits than it says
pub digits_at_most : (n : ℕ) → digits n ≤ n
unfolding digits
digits_at_most n = up_to_most n n

-- a smaller number has no more digits
pub digits_mono : (m n : ℕ) → m ≤ n → digits m ≤ digits n
unfolding digits
digits_mono m n le = least_up_to m m (digits_up_to n n) (omega (arith, le, below_up_to n n (omega arith)))

-- a number has k digits at least where its double is 2 ^ k, or less by one
pub digits_least : (n k : ℕ) → 2 ^ k ≤ 2 * n + 1 → k ≤ digits n
unfolding digits
digits_least n zero h = omega arith
digits_least n (suc k) h =
    let below = below_up_to n n (omega arith) in
    elim (cases_lt k (digits_up_to n n)) [
      | inl less ↦ omega (arith, less)
      | inr le ↦ absurd (elim (cases_lt (digits_up_to n n) k) [
        | inl less ↦ omega (arith, h, below, pow-succ' 2 k, pow_below (digits_up_to n n) k less)
        | inr ge ↦
            let same : digits_up_to n n ≡ k = omega (arith, le, ge) in
            let power : 2 ^ digits_up_to n n ≡ 2 ^ k = ap (λ j. 2 ^ j) same in
            omega (arith, h, below, power, pow-succ' 2 k)
      ])
    ]

-- of n items at most `left` are left after `count` halvings: were n below a power of two, then that many rounds and what is left fit into it
pub record Halved (n count left : ℕ) : Type 0 where
  pub rounds : (k : ℕ) → n < 2 ^ k → (r : ℕ) × (count + r ≡ k) × (left < 2 ^ r)

-- where something is left and fits into the rounds to come, at most half of it fits into one round less
halve : (count k left less r : ℕ) → count + r ≡ k → left < 2 ^ r → zero < left → less ≤ left / 2 → (s : ℕ) × ((count + 1) + s ≡ k) × (less < 2 ^ s)
halve count k left less zero e h some small = absurd (omega (arith, h, some, pow-zero 2))
halve count k left less (suc r) e h some small = (r, omega (arith, e), omega (arith, h, small, pow-succ' 2 r))

-- a round
pub halved_step : (n count left less : ℕ) → Halved n count left → zero < left → less ≤ left / 2 → Halved n (count + 1) less
halved_step n count left less h some small = record { rounds = λ k lt. let g = h.rounds k lt in halve count k left less g.0 g.1 g.2 some small }

-- there are no more rounds than digits
pub halved_end : (n count left : ℕ) → Halved n count left → count ≤ digits n
unfolding digits
halved_end n count left h = let g = h.rounds (digits_up_to n n) (below_up_to n n (omega arith)) in omega (arith, g.1)

-- and no more than 64 in a word
pub halved_fits : (n count left : ℕ) → Halved n count left → n < 2 ^ 64 → count ≤ 64
halved_fits n count left h lt = let g = h.rounds 64 lt in omega (arith, g.1)

-- ---- steps that double, and then halve

-- a power of two that is at most the double of a number in a word, or one more, has an exponent of at most 65
power_fits : (n k : ℕ) → 2 ^ k ≤ 2 * n + 1 → n < 2 ^ 64 → k ≤ 65
power_fits n k h lt =
    elim (cases_lt 65 k) [
      | inl more ↦ absurd (omega (arith, h, lt, pow_below 65 k more))
      | inr le ↦ le
    ]

-- what is left is halved, in as many rounds as there were steps that doubled what was found
pub record IsHalving (count found left : ℕ) : Type 0 where
  pub power : ℕ
  pub rounds : ℕ
  pub least : 2 ^ power ≤ 2 * found + 1
  pub together : count + rounds ≤ max 1 (2 * power)
  pub enough : left < 2 ^ rounds
  pub near : left / 2 ≤ found - 1

-- after `count` steps `found` items were found and at most `left` are left: each step after the first doubled what was found, or what is left is halved
pub record Galloped (count found left : ℕ) : Type 0 where
  pub phase : (2 ^ count ≡ max 1 (2 * found)) ⊎ IsHalving count found left

-- one more step doubles
doubled : (count found more : ℕ) → 2 ^ count ≡ max 1 (2 * found) → more ≡ found + (found - 1) + 1 → 2 ^ (count + 1) ≡ max 1 (2 * more)
doubled count found more exact is =
    let next : count + 1 ≡ suc count = omega arith in
    let power : 2 ^ (count + 1) ≡ 2 ^ suc count = ap (λ j. 2 ^ j) next in
    omega (arith, exact, is, power, pow-succ' 2 count)

-- a step too far
too_far : (count found left : ℕ) → 2 ^ count ≡ max 1 (2 * found) → left ≡ found - 1 → IsHalving (count + 1) found left
too_far zero found left exact is = record {
  power = 0;
  rounds = 0;
  least = omega (arith, pow-zero 2);
  together = omega arith;
  enough = omega (arith, exact, is, pow-zero 2);
  near = omega (arith, is);
}
too_far (suc count) found left exact is = record {
  power = suc count;
  rounds = count;
  least = omega (arith, exact);
  together = omega arith;
  enough = omega (arith, exact, is, pow_pos count, pow-succ' 2 count);
  near = omega (arith, is);
}

-- once less is left than twice what was found, it is halved
turned : (count found left : ℕ) → 2 ^ count ≡ max 1 (2 * found) → left / 2 < found - 1 → IsHalving count found left
turned count found left exact less = record {
  power = count;
  rounds = count;
  least = omega (arith, exact);
  together = omega arith;
  enough = omega (arith, exact, less);
  near = omega (arith, less);
}

-- a round of halving
halve_more : (count power rounds found left more less : ℕ) → 2 ^ power ≤ 2 * found + 1 → count + rounds ≤ max 1 (2 * power)
    → left < 2 ^ rounds → left / 2 ≤ found - 1 → zero < left → found ≤ more → less ≤ left / 2 → IsHalving (count + 1) more less
halve_more count power zero found left more less least together enough near some le small = absurd (omega (arith, enough, some, pow-zero 2))
halve_more count power (suc r) found left more less least together enough near some le small = record {
  power = power;
  rounds = r;
  least = omega (arith, least, le);
  together = omega (arith, together);
  enough = omega (arith, enough, small, pow-succ' 2 r);
  near = omega (arith, near, le, small);
}

-- the same of what is halved
halving_step : (count found left more less : ℕ) → IsHalving count found left → zero < left → found ≤ more → less ≤ left / 2 → IsHalving (count + 1) more less
halving_step count found left more less h some le small = halve_more count h.power h.rounds found left more less h.least h.together h.enough h.near some le small

module _ (count found left step : ℕ) (h : Galloped count found left) (some : zero < left) (is : step ≡ min (found - 1) (left / 2)) where
  -- where what is left is halved, it is halved by a step past what was found
  halved_past : (more less : ℕ) → more ≡ found + step + 1 → less + step + 1 ≡ left → IsHalving count found left → Galloped (count + 1) more less
  halved_past more less e f halving =
      let near = halving.near in
      record { phase = inr (halving_step count found left more less halving some (omega (arith, e)) (omega (arith, is, f, near, some))) }

  -- where what is left is halved, it is halved by a step that finds no more
  halved_behind : (less : ℕ) → less ≡ step → IsHalving count found left → Galloped (count + 1) found less
  halved_behind less e halving =
      let near = halving.near in
      record { phase = inr (halving_step count found left found less halving some (omega arith) (omega (arith, is, e, near))) }

  -- a step past what was found
  pub galloped_past : (more less : ℕ) → more ≡ found + step + 1 → less + step + 1 ≡ left → Galloped (count + 1) more less
  galloped_past more less e f = elim h.phase [
    | inl exact ↦ elim (cases_lt (left / 2) (found - 1)) [
      | inl turn ↦ halved_past more less e f (turned count found left exact turn)
      | inr double ↦ record { phase = inl (doubled count found more exact (omega (arith, is, double, e))) }
    ]
    | inr halving ↦ halved_past more less e f halving
  ]

  -- a step behind what is to be found
  pub galloped_behind : (less : ℕ) → less ≡ step → Galloped (count + 1) found less
  galloped_behind less e = elim h.phase [
    | inl exact ↦ elim (cases_lt (left / 2) (found - 1)) [
      | inl turn ↦ halved_behind less e (turned count found left exact turn)
      | inr double ↦ record { phase = inr (too_far count found less exact (omega (arith, is, double, e))) }
    ]
    | inr halving ↦ halved_behind less e halving
  ]

-- there were at most twice as many steps as what was found has digits, and one where nothing was
pub galloped_end : (count found left : ℕ) → Galloped count found left → count ≤ max 1 (2 * digits found)
galloped_end count found left h = elim h.phase [
  | inl exact ↦ omega (arith, digits_least found count (omega (arith, exact)))
  | inr halving ↦
      let together = halving.together in
      omega (arith, together, digits_least found halving.power halving.least)
]

-- and no more than 130 in a word
pub galloped_fits : (count found left : ℕ) → Galloped count found left → found < 2 ^ 64 → count ≤ 130
galloped_fits count found left h lt = elim h.phase [
  | inl exact ↦ omega (arith, power_fits found count (omega (arith, exact)) lt)
  | inr halving ↦
      let together = halving.together in
      omega (arith, together, power_fits found halving.power halving.least lt)
]

-- What a pair of protections serves and holds: a suite that both serve is the first's alone.
use Rattle.std.specs.Prelude.{ℕ, Bool, cond, ◌||◌, Some, None, Option}
use Rattle.protection.specs.declared.pair.Member.{Member}
use Rattle.protection.specs.declared.pair.Member.TheVariants.{Neither, First, Second}
use Rattle.protection.specs.Keys.{Keying}

-- a pair serves what either serves
abbrev pub pair_serves : (ℕ → Bool) → (ℕ → Bool) → ℕ → Bool
pair_serves first-serves second-serves suite = first-serves suite || second-serves suite

-- of what the two make of a suite, that of the first where it serves the suite, else that of the second
abbrev pub shared : {X : Type 0} → (ℕ → Bool) → ℕ → X → X → X
shared first-serves suite a b = cond (first-serves suite) a b

-- the octets of material that a suite takes
abbrev pub pair_size : (ℕ → Bool) → (ℕ → ℕ) → (ℕ → ℕ) → ℕ → ℕ
pair_size first-serves first-size second-size suite = shared first-serves suite (first-size suite) (second-size suite)

-- what the second holds for the pair: never a suite that the first serves
abbrev pub left_over : (ℕ → Bool) → Option Keying → Option Keying
left_over first-serves None = None
left_over first-serves (Some k) = cond (first-serves k.suite) None (Some k)

-- what a pair holds: what the member holds that the pair has keyed; none before its first keying
abbrev pub pair_holds : (ℕ → Bool) → Member → Option Keying → Option Keying → Option Keying
pair_holds first-serves Neither a b = None
pair_holds first-serves First a b = a
pair_holds first-serves Second a b = left_over first-serves b

-- Alerts read back, fix their octets, and do what their parts say.
use Rattle.std.proofs.Common.{◌≡◌, ℕ, Bool, true, false, cond, eqb, [], ◌∷◌, is_some, Some, None, Ok, Err, Option, sym, refl, ap, ◌∙◌, ap₂, arith}
use Rattle.std.proofs.lemmas.Bool.{true≢false, eqb-true, ne_eqb}
use Rattle.records.specs.Faults.{alerts, alert_number, alert_of, levels, level_number, level_of}
use Rattle.records.specs.Alerts.{content_fault, both, warning_effect}
use Rattle.records.specs.Laws.{AlertReadsBack, AlertWritesAgain, AlertMakesOctets, EffectFollows, effect_read}
use Rattle.records.specs.declared.alert.AlertEffect.TheVariants.{Die}
use Rattle.records.specs.declared.alert.AlertMessage.{AlertMessage}
use Rattle.records.specs.declared.fault.Alert.{Alert}
use Rattle.records.specs.declared.fault.Alert.TheVariants.{IllegalParameter}
use Rattle.records.specs.declared.fault.AlertLevel.{AlertLevel}
use Rattle.records.specs.declared.fault.AlertLevel.TheVariants.{Warning, Fatal}
use Rattle.records.proofs.Numbering.{numbered_has, listed_is, alert_back, level_back, alert_octet, level_octet}

pub reads_back : AlertReadsBack
reads_back m = rw (level_back m.level, alert_back m.alert)

pub makes_octets : AlertMakesOctets
makes_octets m = (level_octet m.level, (alert_octet m.alert, tt))

-- what is read has both parts
both_parts : (p : Option AlertLevel) (q : Option Alert) (m : AlertMessage) → both p q ≡ Ok m
    → (p ≡ Some m.level) × (q ≡ Some m.alert)
both_parts (Some l) (Some a) m e = let h : record { level = l; alert = a } ≡ m = cc in (ap (λ v. Some v.level) h, ap (λ v. Some v.alert) h)
both_parts (Some l) None m e = let z : ◌≡◌ {A = ℕ} 0 1 = cc in absurd (omega arith)
both_parts None (Some a) m e = let z : ◌≡◌ {A = ℕ} 0 1 = cc in absurd (omega arith)
both_parts None None m e = let z : ◌≡◌ {A = ℕ} 0 1 = cc in absurd (omega arith)

pub writes_again : AlertWritesAgain
writes_again [] m e = let z : ◌≡◌ {A = ℕ} 0 1 = cc in absurd (omega arith)
writes_again (l ∷ []) m e = let z : ◌≡◌ {A = ℕ} 0 1 = cc in absurd (omega arith)
writes_again (l ∷ (n ∷ [])) m e =
    let p = both_parts (level_of l) (alert_of n) m e in
    ap₂ (λ u v. u ∷ (v ∷ [])) (numbered_has level_number levels l m.level p.0) (numbered_has alert_number alerts n m.alert p.1)
writes_again (l ∷ (n ∷ (x ∷ xs))) m e = let z : ◌≡◌ {A = ℕ} 0 1 = cc in absurd (omega arith)

-- the tests of level 1 and level 2 and the alert that was found
parts_decide : (n : ℕ) (one two : Bool) (q : Option Alert) → (one ≡ true → two ≡ false) → ((a : Alert) → q ≡ Some a → alert_number a ≡ n)
    → cond (is_some q) (cond two (Ok Die) (cond one (Ok (warning_effect n)) (Err (content_fault IllegalParameter)))) (Err (content_fault IllegalParameter))
    ≡ effect_read (both (cond one (Some Warning) (cond two (Some Fatal) None)) q)
parts_decide n true true q d h = let z = d refl in absurd (true≢false z)
parts_decide n true false (Some a) d h = ap (λ k. Ok (warning_effect k)) (sym (h a refl))
parts_decide n true false None d h = refl
parts_decide n false true (Some a) d h = refl
parts_decide n false true None d h = refl
parts_decide n false false (Some a) d h = refl
parts_decide n false false None d h = refl

pub effect_follows : EffectFollows
effect_follows [] = refl
effect_follows (l ∷ []) = refl
effect_follows (l ∷ (n ∷ [])) =
    ap (λ t. cond t (cond (eqb l 2) (Ok Die) (cond (eqb l 1) (Ok (warning_effect n)) (Err (content_fault IllegalParameter)))) (Err (content_fault IllegalParameter))) (listed_is n)
    ∙ parts_decide n (eqb l 1) (eqb l 2) (alert_of n) (λ t. let e = eqb-true l 1 t in ne_eqb l 2 (λ f. omega arith)) (numbered_has alert_number alerts n)
effect_follows (l ∷ (n ∷ (x ∷ xs))) = refl

-- A record's content, bare or opened, and what becomes of it.
use Rattle.std.proofs.Common.{◌≡◌, ℕ, ◌+◌, ◌-◌, ◌≤◌, min, Bool, false, List, ◌++◌, length, drop, Ok, Result, sym, refl, ap, ◌∙◌, arith}
use Rattle.std.proofs.lemmas.List.{drop-replicate}
use Rattle.octets.specs.Laid.{laid}
use Rattle.octets.proofs.Lays.{laid_first}
use Rattle.records.specs.declared.fault.Fault.{Fault}
use Rattle.sm3.specs.Hash.{Running}
use Rattle.model.specs.Protections.{Protection}
use Rattle.model.specs.Endpoint.{End}
use Rattle.model.specs.Results.{zeros}
use Rattle.model.specs.Deeds.{perform}
use Rattle.model.specs.Tlcp.{tlcp}
use Rattle.end_rules.specs.Effects.{effect_deed}
use Rattle.end_rules.specs.declared.content.ContentEffect.{ContentEffect}
use Rattle.end_reports.specs.Reports.{Done, done}
use Rattle.end_receiving.specs.Contents.{content_at, after_content, content_length, content_placed}

-- a bare content is laid over zeros as it came
pub bare_answer : (b : Bool) (P : Protection) (e : End Running) (k : ℕ) (x pl : List ℕ) {r : ℕ} → b ≡ false → 18432 ≤ length pl → length x ≤ 18432
    → r ≡ 0 + min (length x) (length pl - 0) → ◌≡◌ {A = Result ℕ Fault} (Ok r) (content_length (content_at b P e k x))
bare_answer b P e k x pl {r} q room fits er =
    let z : r ≡ length x = omega arith in
    rw (q, z)

pub bare_placed : (b : Bool) (P : Protection) (e : End Running) (k : ℕ) (x pl : List ℕ) {after : List ℕ} → b ≡ false → 18432 ≤ length pl → length x ≤ 18432
    → pl ≡ zeros (length pl) → after ≡ laid pl 0 x → after ≡ content_placed (content_at b P e k x) (length pl)
bare_placed b P e k x pl {after} q room fits clean ea =
    let h : length x ≤ length pl = omega arith in
    let d : drop (length x) pl ≡ zeros (length pl - length x) = ap (drop (length x)) clean ∙ drop-replicate (length x) (length pl) 0 in
    rw q (ea ∙ laid_first pl x h ∙ ap (λ z. x ++ z) d)

pub bare_after : (b : Bool) (P : Protection) (e : End Running) (k : ℕ) (x : List ℕ) → b ≡ false → e ≡ after_content b (content_at b P e k x) e
bare_after b P e k x q = rw q refl

-- what an effect does, by which effect it is
pub effect_done : (P : Protection) (f : List ℕ) (e : End Running) (x out : List ℕ) {a b : ContentEffect} {d : Done} → a ≡ b
    → d ≡ done P (perform tlcp P f e (effect_deed x b)) out → d ≡ done P (perform tlcp P f e (effect_deed x a)) out
effect_done P f e x out {a} {b} {d} q p = p ∙ sym (ap (λ z. done P (perform tlcp P f e (effect_deed x z)) out) q)

-- Bare records and the messages in them, from what each call in turn yields.
use Rattle.std.proofs.Common.{◌≡◌, ℕ, ◌+◌, ◌≤◌, true, List, length, Option, unwrap_or, ap, ◌∙◌, arith}
use Rattle.std.proofs.lemmas.Bool.{cond-true, le-leb, and_from}
use Rattle.octets.specs.Laid.{laid}
use Rattle.records.specs.Records.{framed, record_end, with_record, fits}

pub fitting : (o : List ℕ) (at n : ℕ) → n ≤ 65535 → at + (5 + n) ≤ length o → fits o at n ≡ true
fitting o at n h r = and_from _ _ (le-leb n 65535 h) (le-leb (at + (5 + n)) (length o) r)

-- a record that finds room
pub bare_end : (o x : List ℕ) (at k : ℕ) {e : Option ℕ} {r : ℕ} → length x ≤ 65535 → at + (5 + length x) ≤ length o
    → e ≡ record_end o at (length x) → r ≡ unwrap_or e at → r ≡ at + length (framed k x)
bare_end o x at k {e} {r} h q ee er = er ∙ ap (λ v. unwrap_or v at) ee ∙ rw (fitting o at (length x) h q) (omega arith)

pub bare_after : (o x : List ℕ) (at k : ℕ) {o1 : List ℕ} → length x ≤ 65535 → at + (5 + length x) ≤ length o
    → o1 ≡ with_record o at k x → o1 ≡ laid o at (framed k x)
bare_after o x at k {o1} h q e = e ∙ cond-true _ _ _ (fitting o at (length x) h q)

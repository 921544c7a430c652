-- The product's own transcript hash and key schedule, SM3 and HMAC-SM3, and what is stated of ends with it.
use Rattle.std.specs.Prelude.{◌≡◌}
use Rattle.sm3.specs.Hash.{sm3, Running, start, absorb, finished}
use Rattle.key_schedule.specs.Schedule.{master_secret, key_material, verify_data}
use Rattle.model.specs.Schedule.{Schedule, joined_octets}
use Rattle.model.specs.Protections.{Protection, Lawful}
use Rattle.model.specs.Steps.{step}
use Rattle.model.specs.EndLaws.{EndLaws}
use Rattle.model.specs.Runs.{Check, value}
use Rattle.model.specs.Law.{LineLaw}
use Rattle.model.specs.Bench.{Bench}

-- the verify data are made of the digest of the running hash
abbrev pub tlcp : Schedule Running
tlcp = record { blank = start; absorb = absorb; master_secret = master_secret; key_material = key_material; verify_data = λ X m h. verify_data m X (finished h) }

-- a check value is made of the SM3 of all messages, one after another
abbrev pub TranscriptIsSm3 : Type 0
TranscriptIsSm3 = (c : Check) → value tlcp c ≡ verify_data c.master c.label (sm3 (joined_octets c.messages))

-- the laws of one end and the pieces for the bench, with any lawful protection
abbrev pub EndLawsStand : Type 0
EndLawsStand = (P : Protection) → Lawful P → EndLaws tlcp P (step tlcp P)

-- the pieces for the bench
abbrev pub BenchStands : Type 0
BenchStands = (P : Protection) → Bench tlcp P

-- the law of the lines over a kind of protection
abbrev pub LawOfLines : Protection → Type 0
LawOfLines P = LineLaw tlcp P (step tlcp P)

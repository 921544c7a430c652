-- The laws, with SM3 and its key schedule.
use Rattle.std.proofs.Common.{sym, ap}
use Rattle.sm3.specs.Hash.{finished}
use Rattle.sm3.proofs.Running.{absorb_none, absorb-++, finished_is}
use Rattle.key_schedule.specs.Schedule.{verify_data}
use Rattle.key_schedule.proofs.Keys.{length-key_material, key_material_octets, length-verify_data, verify_data_octets}
use Rattle.model.specs.Schedule.{ScheduleLaws, joined_octets}
use Rattle.model.specs.Protections.{Protection, Lawful}
use Rattle.model.specs.Runs.{value}
use Rattle.model.specs.Tlcp.{tlcp, TranscriptIsSm3, EndLawsStand, BenchStands, LawOfLines}
use Rattle.model.proofs.EndLaws.{end_laws}
use Rattle.model.proofs.Bench.{bench}
use Rattle.model.proofs.Whole.{line_law}

pub tlcp_laws : ScheduleLaws tlcp
tlcp_laws =
    record {
      none_more = absorb_none;
      in_pieces = λ h a b. sym (absorb-++ h a b);
      material_length = length-key_material;
      material_octets = key_material_octets;
      verify_length = λ X m h. length-verify_data m (finished h) X;
      verify_octets = λ X m h. verify_data_octets m (finished h) X;
    }

pub transcript_is_sm3 : TranscriptIsSm3
unfolding value
transcript_is_sm3 c = ap (λ d. verify_data c.master c.label d) (finished_is (joined_octets c.messages))

pub end_laws_stand : EndLawsStand
end_laws_stand P law = end_laws tlcp P tlcp_laws law

pub bench_stands : BenchStands
bench_stands P = bench tlcp P

-- for the public call that makes an end
pub law_of_lines : (P : Protection) → Lawful P → LawOfLines P
law_of_lines P law = line_law tlcp P tlcp_laws law

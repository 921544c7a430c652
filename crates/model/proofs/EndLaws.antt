-- The laws of one end.
use Rattle.model.specs.Schedule.{Schedule, ScheduleLaws}
use Rattle.model.specs.Protections.{Protection, Lawful}
use Rattle.model.specs.Steps.{step}
use Rattle.model.specs.EndLaws.{EndLaws}
use Rattle.model.proofs.Sent.{sent-step}
use Rattle.model.proofs.Opened.{opened-step}
use Rattle.model.proofs.Moves.{moves_step, ends_step, refused_still, over_refuses, half_bare, half_protected}
use Rattle.model.proofs.Tables.{every_move}
use Rattle.model.proofs.Clean.{clean_step, wipes_step, hashed_step}
use Rattle.model.proofs.Limits.{limits_step}
use Rattle.model.proofs.Room.{held_step, room_step}

pub end_laws : {H : Type 0} (K : Schedule H) (P : Protection) → ScheduleLaws K → Lawful P → EndLaws K P (step K P)
end_laws K P kl law =
    record {
      refused_still = refused_still K P;
      over_refuses = over_refuses K P;
      moves_by_table = moves_step K P;
      makes_every_move = every_move K P kl;
      ends_with = ends_step K P;
      opens_so = opened-step K P;
      sends_so = sent-step K P;
      hashes_joined = hashed_step K P kl;
      stays_clean = clean_step K P;
      wipes_keys = wipes_step K P;
      stays_in_limits = limits_step K P;
      no_change_over_half = half_bare K P;
      no_protected_change_over_half = half_protected K P;
      stays_held = held_step K P kl;
      finds_room = room_step K P kl law;
    }

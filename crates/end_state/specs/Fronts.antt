-- The message at the front of the buffer: whether it is all there, and the end once it has left.
use Rattle.std.specs.Prelude.{Bool, true, false, [], ◌∷◌}
use Rattle.sm3.specs.Hash.{Running}
use Rattle.handshake.specs.Frames.{Next, not_ready, too_long, ready}
use Rattle.model.specs.declared.stage.Stage.{Stage}
use Rattle.model.specs.Endpoint.{End, with_stage, with_buffer}
use Rattle.model.specs.Deeds.{hearing}
use Rattle.model.specs.Tlcp.{tlcp}

-- all there, and no longer than an end takes
abbrev pub is_whole : Next → Bool
is_whole not_ready = false
is_whole too_long = false
is_whole (ready t m x rest) = true

-- it joins the transcript and leaves the buffer, and the end goes on to a stage; where there is none, nothing changes
abbrev pub passed_front : Stage → Next → End Running → End Running
passed_front s not_ready e = e
passed_front s too_long e = e
passed_front s (ready t m x rest) e = with_buffer rest (hearing tlcp (m ∷ []) (with_stage s e))

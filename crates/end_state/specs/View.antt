-- What a state of the code stands for.
use Rattle.std.specs.Prelude.{ℕ, List, ◌++◌, take, Option}
use Rattle.sm3.specs.Hash.{Running}
use Rattle.sm3.specs.View.{view as hash_view}
use Rattle.protection.specs.Keys.{Keying}
use Rattle.model.specs.Endpoint.{End}
use Rattle.end_state.specs.declared.state.HandshakeBuffer.{HandshakeBuffer}
use Rattle.end_state.specs.declared.state.SuiteList.{SuiteList}
use Rattle.end_state.specs.declared.state.KeyScratch.{KeyScratch}
use Rattle.end_state.specs.declared.state.State.{State}
use Rattle.end_state.specs.declared.line_end.LineEnd.{LineEnd}

-- the octets that count
abbrev pub buffer_view : HandshakeBuffer → List ℕ
buffer_view b = take b.len b.octets

-- the suites that count
abbrev pub suites_view : SuiteList → List ℕ
suites_view s = take s.count s.list

-- premaster and material
abbrev pub keys_view : KeyScratch → List ℕ
keys_view k = k.premaster ++ k.material

-- the state, with what the protection holds; only octets behind the buffer's length are left out
abbrev pub state_view : Option Keying → State → End Running
state_view held s = record { role = s.role; stage = s.stage; suites = suites_view s.suites; protection = held; client_random = s.client_random; server_random = s.server_random; suite = s.suite; master = s.master; transcript = hash_view s.transcript; scratch = keys_view s.keys; reads = s.reads; writes = s.writes; reads_protected = s.reads_protected; writes_protected = s.writes_protected; buffered = buffer_view s.buffer }

-- an end: its state with what its protection holds
abbrev pub view : {P : Type 0} → (P → Option Keying) → LineEnd P → End Running
view holds e = state_view (holds e.protection) e.state

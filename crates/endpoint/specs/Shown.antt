-- What a look of the code shows, in the terms of the definitions.
use Rattle.std.specs.Prelude.{List, [], ◌∷◌, Ok, Err, Result}
use Rattle.handshake_reader.specs.Views.{seen_certificates}
use Rattle.model.specs.declared.refusal.Refusal.{Refusal}
use Rattle.model.specs.Results as results
use Rattle.model.specs.Results.{parts_from}
use Rattle.endpoint.specs.declared.shown.Part.{Part}
use Rattle.endpoint.specs.declared.shown.Shown.{Shown}
use Rattle.endpoint.specs.declared.shown.ShownParts.{ShownParts}
use Rattle.endpoint.specs.declared.shown.ShownParts.TheVariants.{Nothing, Certificates, Carried}

-- a part by its octets
abbrev pub part_seen : Part → results.Part
part_seen p = record { offset = p.offset; octets = p.octets.now }

-- none, certificates behind the header and a length of three octets, or one part behind the header and a length of two
abbrev pub parts_seen : ShownParts → List results.Part
parts_seen Nothing = []
parts_seen (Certificates m) = parts_from 7 (seen_certificates m)
parts_seen (Carried x) = record { offset = 6; octets = x.now } ∷ []

-- all that is shown, by its octets
abbrev pub shown_seen : Shown → results.Shown
shown_seen s = record { client_random = s.client_random.now; server_random = s.server_random.now; suite = s.suite; parts = parts_seen s.parts }

-- what is shown, or the refusal
abbrev pub shown_by : Result Shown Refusal → Result results.Shown Refusal
shown_by (Ok s) = Ok (shown_seen s)
shown_by (Err e) = Err e

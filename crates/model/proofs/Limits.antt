-- The buffer never overflows, and the numbers of records stay within their limits.
use Rattle.std.proofs.Common.{◌≡◌, ℕ, ◌+◌, ◌*◌, ◌<◌, ◌≤◌, Bool, true, false, cond, leb, ◌⊎◌, List, [], ◌∷◌, length, take, drop, refl, inl, inr, arith, lit≤, length-append, leb-true}
use Rattle.handshake.specs.Frames.{message_limit, not_ready, too_long, ready, next, is_ready}
use Rattle.model.specs.Stages.{over}
use Rattle.model.specs.Limits.{buffer_size, send_limit, read_limit}
use Rattle.model.specs.Schedule.{Schedule}
use Rattle.model.specs.Protections.{Protection}
use Rattle.model.specs.Endpoint.{End, Call}
use Rattle.model.specs.Deeds.{Deed, waits, halts, closes, raises, client_changes, server_changes, buffers, releases, takes_client_hello, takes_server_hello, takes_done, keeps_certificates, keeps_signature, keeps_wrapped, fails_check, client_opens, server_opens, greets, offers, trusts_certificates, trusts_signature, exchanges, unwraps, sends, perform}
use Rattle.model.specs.Refusals.{message_ready}
use Rattle.model.specs.Contents.{on_content}
use Rattle.model.specs.Steps.{step}
use Rattle.model.specs.EndLaws.{InLimits}
use Rattle.model.proofs.Fronts.{never}
use Rattle.model.proofs.Fits.{Fits, handed}
use Rattle.model.proofs.Ways.{one_read, step_by}

pub unready_short : (xs : List ℕ) → is_ready (next xs) ≡ false → length xs ≤ 4095
unready_short [] q = lit≤ tt
unready_short (t ∷ []) q = lit≤ tt
unready_short (t ∷ (a ∷ [])) q = lit≤ tt
unready_short (t ∷ (a ∷ (b ∷ []))) q = lit≤ tt
unready_short (t ∷ (a ∷ (b ∷ (c ∷ xs)))) q = go (a * 65536 + b * 256 + c) (leb (a * 65536 + b * 256 + c) message_limit) (leb (a * 65536 + b * 256 + c) (length xs)) refl refl q
  where
    go : (n : ℕ) (b1 b2 : Bool) → leb n message_limit ≡ b1 → leb n (length xs) ≡ b2 → is_ready (cond b1 (cond b2 (ready t (t ∷ (a ∷ (b ∷ (c ∷ take n xs)))) (take n xs) (drop n xs)) not_ready) too_long) ≡ false → length (t ∷ (a ∷ (b ∷ (c ∷ xs)))) ≤ 4095
    go n true true p r z = never z
    go n true false p r z = let u : n ≤ message_limit = leb-true _ _ p in let v : length xs < n = grind arith in omega arith
    go n false b2 p r z = never z

module _ {H : Type 0} (K : Schedule H) (P : Protection) where
  -- ---- the buffer: octets join it only while no message is ready
  fills : (f : List ℕ) (e : End H) (d : Deed) → Fits K e d → (handed d ≡ false) ⊎ (message_ready e ≡ false) → length e.buffered ≤ buffer_size → length (perform K P f e d).end.buffered ≤ buffer_size
  fills f e waits g r l = l
  fills f e halts g r l = lit≤ tt
  fills f e closes g r l = lit≤ tt
  fills f e (raises i n) g r l = lit≤ tt
  fills f e client_changes g r l = l
  fills f e server_changes g r l = l
  fills f e (buffers x) g (inl r) l = never r
  fills f e (buffers x) g (inr r) l = let h = unready_short e.buffered r in let k = length-append e.buffered x in let w = g.1 in omega arith
  fills f e (releases x) g r l = l
  fills f e (takes_client_hello v u m rest) g r l = let w = g.3 in omega arith
  fills f e (takes_server_hello v u m rest) g r l = let w = g.4 in omega arith
  fills f e (takes_done m rest) g r l = let w = g.1 in omega arith
  fills f e keeps_certificates g r l = l
  fills f e keeps_signature g r l = l
  fills f e keeps_wrapped g r l = l
  fills f e fails_check g r l = lit≤ tt
  fills f e (client_opens m) g r l = lit≤ tt
  fills f e (server_opens m) g r l = lit≤ tt
  fills f e (greets v) g r l = l
  fills f e (offers p) g r l = l
  fills f e (trusts_certificates m rest) g r l = let w = g.1 in omega arith
  fills f e (trusts_signature m rest) g r l = let w = g.1 in omega arith
  fills f e (exchanges p w) g r l = l
  fills f e (unwraps p m rest) g r l = let w = g.1 in omega arith
  fills f e (sends x) g r l = l

  -- ---- the numbers
  one_more : (e : End H) (b : Bool) → e.writes ≤ send_limit → cond b (e.writes + 1) e.writes ≤ send_limit + 1
  one_more e true h = omega arith
  one_more e false h = omega arith

  one_sent : (e : End H) (b : Bool) → e.writes < send_limit → cond b (e.writes + 1) e.writes ≤ send_limit
  one_sent e true h = omega arith
  one_sent e false h = omega arith

  limits : (f : List ℕ) (e : End H) (d : Deed) → Fits K e d → over e.stage ≡ false → length (perform K P f e d).end.buffered ≤ buffer_size → InLimits e → InLimits (perform K P f e d).end
  limits f e waits g l b h = h
  limits f e halts g l b h = record { buffer_fits = b; reads_fit = h.reads_fit; writes_fit = λ q. never q; last_fits = h.last_fits }
  limits f e closes g l b h = record { buffer_fits = b; reads_fit = h.reads_fit; writes_fit = λ q. never q; last_fits = one_more e e.writes_protected (h.writes_fit l) }
  limits f e (raises i n) g l b h = record { buffer_fits = b; reads_fit = h.reads_fit; writes_fit = λ q. never q; last_fits = one_more e e.writes_protected (h.writes_fit l) }
  limits f e client_changes g l b h = record { buffer_fits = b; reads_fit = lit≤ tt; writes_fit = λ q. h.writes_fit l; last_fits = h.last_fits }
  limits f e server_changes g l b h = record { buffer_fits = b; reads_fit = lit≤ tt; writes_fit = λ q. h.writes_fit l; last_fits = h.last_fits }
  limits f e (buffers x) g l b h = record { buffer_fits = b; reads_fit = h.reads_fit; writes_fit = h.writes_fit; last_fits = h.last_fits }
  limits f e (releases x) g l b h = h
  limits f e (takes_client_hello v u m rest) g l b h = record { buffer_fits = b; reads_fit = h.reads_fit; writes_fit = λ q. h.writes_fit l; last_fits = h.last_fits }
  limits f e (takes_server_hello v u m rest) g l b h = record { buffer_fits = b; reads_fit = h.reads_fit; writes_fit = λ q. h.writes_fit l; last_fits = h.last_fits }
  limits f e (takes_done m rest) g l b h = record { buffer_fits = b; reads_fit = h.reads_fit; writes_fit = λ q. h.writes_fit l; last_fits = h.last_fits }
  limits f e keeps_certificates g l b h = record { buffer_fits = b; reads_fit = h.reads_fit; writes_fit = λ q. h.writes_fit l; last_fits = h.last_fits }
  limits f e keeps_signature g l b h = record { buffer_fits = b; reads_fit = h.reads_fit; writes_fit = λ q. h.writes_fit l; last_fits = h.last_fits }
  limits f e keeps_wrapped g l b h = record { buffer_fits = b; reads_fit = h.reads_fit; writes_fit = λ q. h.writes_fit l; last_fits = h.last_fits }
  limits f e fails_check g l b h = record { buffer_fits = b; reads_fit = h.reads_fit; writes_fit = λ q. never q; last_fits = one_more e e.writes_protected (h.writes_fit l) }
  limits f e (client_opens m) g l b h = record { buffer_fits = b; reads_fit = h.reads_fit; writes_fit = λ q. h.writes_fit l; last_fits = h.last_fits }
  limits f e (server_opens m) g l b h = record { buffer_fits = b; reads_fit = h.reads_fit; writes_fit = λ q. lit≤ tt; last_fits = lit≤ tt }
  limits f e (greets v) g l b h = record { buffer_fits = b; reads_fit = h.reads_fit; writes_fit = λ q. h.writes_fit l; last_fits = h.last_fits }
  limits f e (offers p) g l b h = record { buffer_fits = b; reads_fit = h.reads_fit; writes_fit = λ q. h.writes_fit l; last_fits = h.last_fits }
  limits f e (trusts_certificates m rest) g l b h = record { buffer_fits = b; reads_fit = h.reads_fit; writes_fit = λ q. h.writes_fit l; last_fits = h.last_fits }
  limits f e (trusts_signature m rest) g l b h = record { buffer_fits = b; reads_fit = h.reads_fit; writes_fit = λ q. h.writes_fit l; last_fits = h.last_fits }
  limits f e (exchanges p w) g l b h = record { buffer_fits = b; reads_fit = h.reads_fit; writes_fit = λ q. lit≤ tt; last_fits = lit≤ tt }
  limits f e (unwraps p m rest) g l b h = record { buffer_fits = b; reads_fit = h.reads_fit; writes_fit = λ q. h.writes_fit l; last_fits = h.last_fits }
  limits f e (sends x) g l b h = let w = one_sent e e.writes_protected g.3 in record { buffer_fits = b; reads_fit = h.reads_fit; writes_fit = λ q. w; last_fits = omega arith }

  pub read_limits : (e : End H) → InLimits e → e.reads < read_limit → InLimits (one_read K e)
  read_limits e h m = record { buffer_fits = h.buffer_fits; reads_fit = omega arith; writes_fit = h.writes_fit; last_fits = h.last_fits }

  pub limits_step : (e : End H) (c : Call) → InLimits e → InLimits (step K P e c).end
  limits_step e c h =
      step_by K P e (λ o. InLimits o.end) c
      (record {
        refused = λ r. h;
        wants = λ l. h;
        done = λ n f d l g t _ _. limits f e d g l (fills f e d g (inl t) h.buffer_fits) h;
        plain = λ n f k x l b g r _ _. limits f e (on_content e k x) g l (fills f e (on_content e k x) g (inr r) h.buffer_fits) h;
        under = λ n f k x l b g r _ _ m. limits f (one_read K e) (on_content (one_read K e) k x) g l (fills f (one_read K e) (on_content (one_read K e) k x) g (inr r) h.buffer_fits) (read_limits e h m);
      })

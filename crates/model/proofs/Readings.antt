-- Readings, over runs, from the local properties alone: `step` stays shut.
use Rattle.std.proofs.Common.{◌≡◌, ℕ, true, ◌⊎◌, List, [], ◌∷◌, ◌++◌, length, sym, refl, ap, ◌∙◌, inl, inr, append_assoc, append-nil, arith, length-append}
use mathlib.Core.List.{Memᴰ}
use Rattle.octets.specs.declared.role.Role.{Role}
use Rattle.octets.specs.declared.role.Role.TheVariants.{Client, Server}
use Rattle.octets.specs.Roles.{peer}
use Rattle.model.specs.Stages.{over}
use Rattle.model.specs.Schedule.{Schedule}
use Rattle.model.specs.Protections.{Protection}
use Rattle.model.specs.Endpoint.{End}
use Rattle.model.specs.Outcomes.{Protected, Outcome}
use Rattle.model.specs.Steps.{step}
use Rattle.model.specs.Runs.{Run, newly_made, by, Past, no_past, sealed_in, later, Begins, after, past, Genuine, InOrder}
use Rattle.model.specs.Law.{readings}
use Rattle.model.proofs.Lists.{Numbered, begins_more, begins_trans, found, numbered-++, numbered_at, readings-++}
use Rattle.model.proofs.Sent.{sent_run}
use Rattle.model.proofs.Local.{Local, Sound, local}

all_found : (xs ys os : List Protected) → Numbered 0 ys → Numbered (length xs) os → ((x : Protected) → Memᴰ x os → Memᴰ x ys) → Begins xs ys → Begins (xs ++ os) ys
all_found xs ys [] n k g b = rw append-nil b
all_found xs ys (o ∷ os) n k g b =
    let num : Numbered 0 (xs ++ b.0) = rw b.1 n in
    let mem : Memᴰ o (xs ++ b.0) = rw b.1 (g o (mathlib.Core.List.Memᴰ.head refl)) in
    let a = k.0 in
    let w = found 0 xs b.0 o num mem (omega arith) in
    let more : Begins (xs ++ (o ∷ [])) ys = (w.0, append_assoc xs (o ∷ []) w.0 ∙ ap (λ l. xs ++ l) w.1 ∙ b.1) in
    let rest = all_found (xs ++ (o ∷ [])) ys os n (numbered_at _ _ os (rw length-append refl) k.1) (λ x m. g x (mathlib.Core.List.Memᴰ.tail m)) more in
    rw append_assoc at rest

module _ {H : Type 0} (K : Schedule H) (P : Protection) where
  -- what holds of an end and its own past
  pub record Solo (e : End H) (p : Past) : Type 0 where
    pub sound : Sound e
    pub out : Numbered 0 p.sealed
    pub out_count : e.writes ≡ length p.sealed
    pub sent : readings p.sealed ≡ p.sent
    pub into : Numbered 0 p.opened
    pub in_count : e.reads ≡ length p.opened
    pub freed : (readings p.opened ≡ p.released) ⊎ (Begins p.released (readings p.opened) × (over e.stage ≡ true))

  abbrev Freed : List Protected → List (List ℕ) → End H → Type 0
  Freed xs rs e = (readings xs ≡ rs) ⊎ (Begins rs (readings xs) × (over e.stage ≡ true))

  freed_step : (e : End H) (p : Past) (o : Outcome H) → Freed p.opened p.released e → (readings o.opened ≡ o.released) ⊎ ((o.released ≡ []) × (over o.end.stage ≡ true))
      → (over e.stage ≡ true → (o.opened ≡ []) × (o.released ≡ []) × (over o.end.stage ≡ true) × (o.writes ≡ [])) → Freed (p.opened ++ o.opened) (p.released ++ o.released) o.end
  freed_step e p o (inl q) (inl r) s = inl (readings-++ p.opened o.opened ∙ cc)
  freed_step e p o (inl q) (inr r) s = let a = r.0 in let b = readings-++ p.opened o.opened in inr ((readings o.opened, rw (a, append-nil) (ap (λ l. l ++ readings o.opened) (sym q) ∙ sym b)), r.1)
  freed_step e p o (inr q) r s = let t = s q.1 in let a = t.0 in let b = t.1 in inr (simp (a, b, append-nil) q.0, t.2)

  solo_step : (X : Role) (e : End H) (p : Past) (o : Outcome H) → Solo e p → Local K P e o → Solo o.end (later K X p o)
  solo_step X e p o h l =
      record {
        sound = l.sound;
        out = numbered-++ 0 p.sealed (sealed_in o.writes) h.out (numbered_at _ _ _ (omega arith) l.numbered_out);
        out_count = rw length-append (omega arith);
        sent = readings-++ p.sealed (sealed_in o.writes) ∙ cc;
        into = numbered-++ 0 p.opened o.opened h.into (numbered_at _ _ _ (omega arith) l.numbered_in);
        in_count = rw length-append (omega arith);
        freed = freed_step e p o h.freed l.frees l.stays;
      }

  -- ---- a line
  module _ (first : Role → End H) (fresh : (X : Role) → Solo (first X) no_past) where
    pub solo : (r : Run) (X : Role) → Solo (after K (step K P) first r X) (past K (step K P) first r X)
    solo newly_made X = fresh X
    solo (by r Client c) Client = solo_step Client _ _ _ (solo r Client) (local K P _ c (solo r Client).sound)
    solo (by r Server c) Client = solo r Client
    solo (by r Client c) Server = solo r Server
    solo (by r Server c) Server = solo_step Server _ _ _ (solo r Server) (local K P _ c (solo r Server).sound)

    -- what an end has opened is a beginning of what the other has sealed
    opened-step : (e : End H) (p q : Past) (o : Outcome H) → Solo e p → Local K P e o → Numbered 0 q.sealed → ((x : Protected) → Memᴰ x o.opened → Memᴰ x q.sealed) → Begins p.opened q.sealed → Begins (p.opened ++ o.opened) q.sealed
    opened-step e p q o h l n g b = all_found p.opened q.sealed o.opened n (numbered_at _ _ _ h.in_count l.numbered_in) g b

    pub opened : (r : Run) → Genuine K (step K P) first r → (X : Role) → Begins (past K (step K P) first r X).opened (past K (step K P) first r (peer X)).sealed
    opened newly_made g X = ([], refl)
    opened (by r Client c) g Client = opened-step _ (past K (step K P) first r Client) (past K (step K P) first r Server) _ (solo r Client) (local K P _ c (solo r Client).sound) (solo r Server).out g.1 (opened r g.0 Client)
    opened (by r Server c) g Client = begins_more (past K (step K P) first r Client).opened (past K (step K P) first r Server).sealed _ (opened r g.0 Client)
    opened (by r Client c) g Server = begins_more (past K (step K P) first r Server).opened (past K (step K P) first r Client).sealed _ (opened r g.0 Server)
    opened (by r Server c) g Server = opened-step _ (past K (step K P) first r Server) (past K (step K P) first r Client) _ (solo r Server) (local K P _ c (solo r Server).sound) (solo r Client).out g.1 (opened r g.0 Server)

    readings_begin : (xs ys : List Protected) → Begins xs ys → Begins (readings xs) (readings ys)
    readings_begin xs ys b = (readings b.0, sym (readings-++ xs b.0) ∙ ap readings b.1)

    freed_begin : (e : End H) (xs : List Protected) (rs : List (List ℕ)) → Freed xs rs e → Begins rs (readings xs)
    freed_begin e xs rs (inl q) = ([], append-nil rs ∙ sym q)
    freed_begin e xs rs (inr q) = q.0

    pub in_order : InOrder K (step K P) first
    in_order r g X =
        let p = past K (step K P) first r X in
        let q = past K (step K P) first r (peer X) in
        let b = readings_begin p.opened q.sealed (opened r g X) in
        let h : Begins p.released q.sent = begins_trans p.released (readings p.opened) q.sent (freed_begin (after K (step K P) first r X) p.opened p.released (solo r X).freed) (rw (solo r (peer X)).sent at b) in
        (h.0, h.1 ∙ sent_run K P first r (peer X))

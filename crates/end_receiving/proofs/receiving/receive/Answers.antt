use Rattle.std.proofs.Common.{◌≡◌, ◌-◌, ◌≤◌, ◌++◌, length, take, Ok, Err, refl, ap, ◌∙◌, arith, rules}
use Rattle.std.proofs.lemmas.Result.{err_from_is_err_and}
use Rattle.sm3.specs.Hash.{Running}
use Rattle.handshake.specs.Parts.{is_none}
use Rattle.model.specs.Stages.{over}
use Rattle.model.specs.Endpoint.{End}
use Rattle.model.specs.Results.{zeros}
use Rattle.model.specs.Deeds.{perform}
use Rattle.model.specs.Tlcp.{tlcp}
use Rattle.end_state.specs.declared.state.HandshakeBuffer.{HandshakeBuffer}
use Rattle.end_reports.specs.Reports.{done}
use Rattle.end_writer.specs.Kind.{kind_of}
use Rattle.end_rules.specs.Effects.{effect_deed}
use Rattle.end_state.specs.View.{view}
use Rattle.end_receiving.specs.Contents.{content_at, counted_at, after_content, kept_by}
use Rattle.end_receiving.proofs.Receives.{from_length, from_fault, content_front, judged_short, takes_no_content, takes_fault, takes_done, judged_as, joins_fit, still_running}
use Rattle.end_receiving.proofs.receiving.receive.Goals as goal

pub returns-in_err-n : goal.returns-in_err-n
returns-in_err-n g c =
    let P = kind_of g.P.RecordProtection.serves g.P.RecordProtection.size g.P.RecordProtection.sealing g.P.RecordProtection.opening in
    let e = view g.P.RecordProtection.holds c.args.end.now in
    let b = c.args.end.now.state.reads_protected in
    let z = content_at b P e c.args.kind c.args.content.now in
    let t = c.in_err-n.field-0.0 in
    let h = from_fault z t c.in_err-n.ensures.answer in
    let p = err_from_is_err_and c.from_residual.result c.from_residual.ensures.1 in
    rw (p.1, p.2)
    (takes_no_content P c.args.fresh.now e c.args.kind c.args.content.now c.args.out.now b t (length c.args.place.now)
    (view g.P.RecordProtection.holds c.unprotect.new.end) c.args.out.now c.unprotect.new.place h
    (c.unprotect.ensures.end ∙ ap (λ u. after_content b u e) h) refl c.requires.running)

pub returns-in_err-effect : goal.returns-in_err-effect
returns-in_err-effect g c =
    let P = kind_of g.P.RecordProtection.serves g.P.RecordProtection.size g.P.RecordProtection.sealing g.P.RecordProtection.opening in
    let e = view g.P.RecordProtection.holds c.args.end.now in
    let b = c.args.end.now.state.reads_protected in
    let k = c.args.kind in
    let z = content_at b P e k c.args.content.now in
    let n = c.in_ok-n.n in
    let pl = c.unprotect.new.place in
    let m = length c.args.place.now in
    let fl = from_length z n c.in_ok-n.ensures.answer in
    let y = fl.0 in
    let e1 = view g.P.RecordProtection.holds c.unprotect.new.end in
    let lp : length pl ≡ m = search rules in
    let fr = content_front z y pl n m fl.1 fl.2 lp c.unprotect.ensures.place in
    let q : e1 ≡ counted_at b e = c.unprotect.ensures.end ∙ ap (λ u. after_content b u e) fl.1 in
    let t = c.in_err-effect.field-0.0 in
    let j = judged_as e1.stage c.is_empty.result k n pl y e1.buffered (Err t) c.in_err-effect.ensures c.is_empty.ensures fr.0 in
    let p = err_from_is_err_and c.from_residual-in_err-effect.result c.from_residual-in_err-effect.ensures.1 in
    rw (p.1, p.2)
    (takes_fault P c.args.fresh.now e k c.args.content.now c.args.out.now b t m y e1 c.args.out.now pl fl.1 q j refl c.requires.running)

pub apply-report-requires : goal.apply-report-requires
apply-report-requires g c =
    let P = kind_of g.P.RecordProtection.serves g.P.RecordProtection.size g.P.RecordProtection.sealing g.P.RecordProtection.opening in
    let e = view g.P.RecordProtection.holds c.args.end.now in
    let b = c.args.end.now.state.reads_protected in
    let k = c.args.kind in
    let z = content_at b P e k c.args.content.now in
    let n = c.in_ok-n.n in
    let pl = c.unprotect.new.place in
    let m = length c.args.place.now in
    let fl = from_length z n c.in_ok-n.ensures.answer in
    let y = fl.0 in
    let e1 = view g.P.RecordProtection.holds c.unprotect.new.end in
    let lp : length pl ≡ m = search rules in
    let fr = content_front z y pl n m fl.1 fl.2 lp c.unprotect.ensures.place in
    let q : e1 ≡ counted_at b e = c.unprotect.ensures.end ∙ ap (λ u. after_content b u e) fl.1 in
    let j = judged_as e1.stage c.is_empty.result k n pl y e1.buffered (Ok c.in_ok-effect.effect) c.in_ok-effect.ensures c.is_empty.ensures fr.0 in
    let short = judged_short e1.stage (is_none e1.buffered) k y c.in_ok-effect.effect j in
    let el : c.unprotect.new.end.state.buffer.len ≡ c.args.end.now.state.buffer.len = ap (λ (u : HandshakeBuffer). u.len) c.unprotect.ensures.buffer in
    let low : c.unprotect.new.end.state.buffer.len ≤ 4095 = omega (arith, el, c.requires.short) in
    record {
      running = ap (λ (u : End Running). over u.stage) q ∙ still_running P c.args.fresh.now e k c.args.content.now c.args.out.now b ∙ c.requires.running;
      fresh = c.requires.fresh;
      room = c.requires.room;
      fits = joins_fit _ n pl y low fr.0 short;
    }

pub keep_released-released-requires : goal.keep_released-released-requires
keep_released-released-requires g c =
    let P = kind_of g.P.RecordProtection.serves g.P.RecordProtection.size g.P.RecordProtection.sealing g.P.RecordProtection.opening in
    let e = view g.P.RecordProtection.holds c.args.end.now in
    let b = c.args.end.now.state.reads_protected in
    let k = c.args.kind in
    let z = content_at b P e k c.args.content.now in
    let n = c.in_ok-n.n in
    let pl = c.unprotect.new.place in
    let m = length c.args.place.now in
    let fl = from_length z n c.in_ok-n.ensures.answer in
    let y = fl.0 in
    let e1 = view g.P.RecordProtection.holds c.unprotect.new.end in
    let lp : length pl ≡ m = search rules in
    let fr = content_front z y pl n m fl.1 fl.2 lp c.unprotect.ensures.place in
    let q : e1 ≡ counted_at b e = c.unprotect.ensures.end ∙ ap (λ u. after_content b u e) fl.1 in
    record { least = omega (arith, fr.1, lp); clean = rw lp fr.2 }

pub returns : goal.returns
returns g c =
    let P = kind_of g.P.RecordProtection.serves g.P.RecordProtection.size g.P.RecordProtection.sealing g.P.RecordProtection.opening in
    let e = view g.P.RecordProtection.holds c.args.end.now in
    let b = c.args.end.now.state.reads_protected in
    let k = c.args.kind in
    let z = content_at b P e k c.args.content.now in
    let n = c.in_ok-n.n in
    let pl = c.unprotect.new.place in
    let m = length c.args.place.now in
    let fl = from_length z n c.in_ok-n.ensures.answer in
    let y = fl.0 in
    let e1 = view g.P.RecordProtection.holds c.unprotect.new.end in
    let lp : length pl ≡ m = search rules in
    let fr = content_front z y pl n m fl.1 fl.2 lp c.unprotect.ensures.place in
    let q : e1 ≡ counted_at b e = c.unprotect.ensures.end ∙ ap (λ u. after_content b u e) fl.1 in
    let a = c.in_ok-effect.effect in
    let nz : n - 0 ≡ n = omega arith in
    let front : take (n - 0) pl ≡ y = ap (λ u. take u pl) nz ∙ fr.0 in
    let j = judged_as e1.stage c.is_empty.result k n pl y e1.buffered (Ok a) c.in_ok-effect.ensures c.is_empty.ensures fr.0 in
    takes_done P c.args.fresh.now e k c.args.content.now c.args.out.now b a m y e1 (view g.P.RecordProtection.holds c.apply-report.new.end) c.apply-report.new.out c.keep_released-released.new.place
    (record { report = c.apply-report.result; released = c.keep_released-released.result }) fl.1 q j
    (c.apply-report.ensures ∙ ap (λ u. done P (perform tlcp P c.args.fresh.now e1 (effect_deed u a)) c.args.out.now) front)
    (c.keep_released-released.ensures.kept ∙ ap (λ u. length (kept_by a u)) fr.0)
    (c.keep_released-released.ensures.place ∙ ap (λ u. kept_by a u ++ zeros (length pl - length (kept_by a u))) fr.0 ∙ ap (λ u. kept_by a y ++ zeros (u - length (kept_by a y))) lp)

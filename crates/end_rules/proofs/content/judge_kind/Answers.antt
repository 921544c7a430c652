use Rattle.std.proofs.Common.{refl}
use Rattle.records.specs.declared.kind.ContentKind.TheVariants.{ChangeCipherSpec, Alert, Handshake, ApplicationData}
use Rattle.end_rules.proofs.ByKind.{by_kind, by_no_kind}
use Rattle.end_rules.proofs.content.judge_kind.Goals as goal

pub returns-in_default : goal.returns-in_default
returns-in_default c = by_no_kind c.args.stage c.args.nothing_buffered c.args.kind c.args.content.now c.in_default.ensures refl

pub returns-in-ChangeCipherSpec : goal.returns-in-ChangeCipherSpec
returns-in-ChangeCipherSpec c =
    by_kind c.args.stage c.args.nothing_buffered c.args.kind c.args.content.now ChangeCipherSpec
    c.in-Some.ensures c.in-ChangeCipherSpec.is c.judge_change.ensures

pub returns-in-Alert : goal.returns-in-Alert
returns-in-Alert c =
    by_kind c.args.stage c.args.nothing_buffered c.args.kind c.args.content.now Alert
    c.in-Some.ensures c.in-Alert.is c.judge_alert_record.ensures

pub returns-in-Handshake : goal.returns-in-Handshake
returns-in-Handshake c =
    by_kind c.args.stage c.args.nothing_buffered c.args.kind c.args.content.now Handshake
    c.in-Some.ensures c.in-Handshake.is (c.judge_handshake.ensures c.args.content.now)

pub returns-in-ApplicationData : goal.returns-in-ApplicationData
returns-in-ApplicationData c =
    by_kind c.args.stage c.args.nothing_buffered c.args.kind c.args.content.now ApplicationData
    c.in-Some.ensures c.in-ApplicationData.is (c.judge_data.ensures c.args.content.now)

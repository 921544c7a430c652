-- Stages, questions and refusals: the number of each, and what each stage asks and awaits.
use Rattle.std.specs.Prelude.{ℕ, Bool, true, false, Some, None, Option}
use Rattle.octets.specs.declared.role.Role.{Role}
use Rattle.octets.specs.declared.role.Role.TheVariants.{Client, Server}
use Rattle.model.specs.declared.stage.Stage.{Stage}
use Rattle.model.specs.declared.stage.Stage.TheVariants.{AskClientRandom, AwaitServerHello, AwaitCertificate, AskCertificates, AwaitServerKeyExchange, AskSignature, AwaitServerHelloDone, AskWrapping, ClientAwaitChange, ClientAwaitFinished, AwaitClientHello, AskServerFlight, AwaitClientKeyExchange, AskUnwrapping, ServerAwaitChange, ServerAwaitFinished, Open, Closed, Dead}
use Rattle.model.specs.declared.question.Question.{Question}
use Rattle.model.specs.declared.question.Question.TheVariants.{ClientRandom, ServerFlight, CheckCertificates, CheckSignature, WrapPremaster, UnwrapPremaster}
use Rattle.model.specs.declared.refusal.Refusal.{Refusal}
use Rattle.model.specs.declared.refusal.Refusal.TheVariants.{Over, QuestionOpen, NotAsked, MessageReady, NothingReady, NotOpen, WrongLength, NoSpace, NumbersSpent, NoNotTaken, BadSuites}

-- the number of a stage: 1 to 10 of the client, 21 to 26 of the server, 11 to 13 of both
abbrev pub stage_number : Stage → ℕ
stage_number AskClientRandom = 1
stage_number AwaitServerHello = 2
stage_number AwaitCertificate = 3
stage_number AskCertificates = 4
stage_number AwaitServerKeyExchange = 5
stage_number AskSignature = 6
stage_number AwaitServerHelloDone = 7
stage_number AskWrapping = 8
stage_number ClientAwaitChange = 9
stage_number ClientAwaitFinished = 10
stage_number AwaitClientHello = 21
stage_number AskServerFlight = 22
stage_number AwaitClientKeyExchange = 23
stage_number AskUnwrapping = 24
stage_number ServerAwaitChange = 25
stage_number ServerAwaitFinished = 26
stage_number Open = 11
stage_number Closed = 12
stage_number Dead = 13

-- the stage at which each role begins
abbrev pub first_stage : Role → Stage
first_stage Client = AskClientRandom
first_stage Server = AwaitClientHello

-- the question that is open at a stage
abbrev pub asks : Stage → Option Question
asks AskClientRandom = Some ClientRandom
asks AwaitServerHello = None
asks AwaitCertificate = None
asks AskCertificates = Some CheckCertificates
asks AwaitServerKeyExchange = None
asks AskSignature = Some CheckSignature
asks AwaitServerHelloDone = None
asks AskWrapping = Some WrapPremaster
asks ClientAwaitChange = None
asks ClientAwaitFinished = None
asks AwaitClientHello = None
asks AskServerFlight = Some ServerFlight
asks AwaitClientKeyExchange = None
asks AskUnwrapping = Some UnwrapPremaster
asks ServerAwaitChange = None
asks ServerAwaitFinished = None
asks Open = None
asks Closed = None
asks Dead = None

-- whether one is
abbrev pub asking : Stage → Bool
asking AskClientRandom = true
asking AwaitServerHello = false
asking AwaitCertificate = false
asking AskCertificates = true
asking AwaitServerKeyExchange = false
asking AskSignature = true
asking AwaitServerHelloDone = false
asking AskWrapping = true
asking ClientAwaitChange = false
asking ClientAwaitFinished = false
asking AwaitClientHello = false
asking AskServerFlight = true
asking AwaitClientKeyExchange = false
asking AskUnwrapping = true
asking ServerAwaitChange = false
asking ServerAwaitFinished = false
asking Open = false
asking Closed = false
asking Dead = false

-- the type of message that a stage awaits, 0 for none
abbrev pub awaits : Stage → ℕ
awaits AskClientRandom = 0
awaits AwaitServerHello = 2
awaits AwaitCertificate = 11
awaits AskCertificates = 0
awaits AwaitServerKeyExchange = 12
awaits AskSignature = 0
awaits AwaitServerHelloDone = 14
awaits AskWrapping = 0
awaits ClientAwaitChange = 0
awaits ClientAwaitFinished = 20
awaits AwaitClientHello = 1
awaits AskServerFlight = 0
awaits AwaitClientKeyExchange = 16
awaits AskUnwrapping = 0
awaits ServerAwaitChange = 0
awaits ServerAwaitFinished = 20
awaits Open = 0
awaits Closed = 0
awaits Dead = 0

-- the line is open
abbrev pub is_open : Stage → Bool
is_open AskClientRandom = false
is_open AwaitServerHello = false
is_open AwaitCertificate = false
is_open AskCertificates = false
is_open AwaitServerKeyExchange = false
is_open AskSignature = false
is_open AwaitServerHelloDone = false
is_open AskWrapping = false
is_open ClientAwaitChange = false
is_open ClientAwaitFinished = false
is_open AwaitClientHello = false
is_open AskServerFlight = false
is_open AwaitClientKeyExchange = false
is_open AskUnwrapping = false
is_open ServerAwaitChange = false
is_open ServerAwaitFinished = false
is_open Open = true
is_open Closed = false
is_open Dead = false

-- the line is over: closed or dead
abbrev pub over : Stage → Bool
over AskClientRandom = false
over AwaitServerHello = false
over AwaitCertificate = false
over AskCertificates = false
over AwaitServerKeyExchange = false
over AskSignature = false
over AwaitServerHelloDone = false
over AskWrapping = false
over ClientAwaitChange = false
over ClientAwaitFinished = false
over AwaitClientHello = false
over AskServerFlight = false
over AwaitClientKeyExchange = false
over AskUnwrapping = false
over ServerAwaitChange = false
over ServerAwaitFinished = false
over Open = false
over Closed = true
over Dead = true

-- the number of a question
abbrev pub question_number : Question → ℕ
question_number ClientRandom = 1
question_number ServerFlight = 2
question_number CheckCertificates = 3
question_number CheckSignature = 4
question_number WrapPremaster = 5
question_number UnwrapPremaster = 6

-- the number of a refusal
abbrev pub refusal_number : Refusal → ℕ
refusal_number Over = 1
refusal_number QuestionOpen = 2
refusal_number NotAsked = 3
refusal_number MessageReady = 4
refusal_number NothingReady = 5
refusal_number NotOpen = 6
refusal_number WrongLength = 7
refusal_number NoSpace = 8
refusal_number NumbersSpent = 9
refusal_number NoNotTaken = 10
refusal_number BadSuites = 11

-- What a line of a script prints. Assumes nothing.
use Rattle.std.specs.Prelude.{ℕ, List, [], ◌++◌, codes, string_bytes, Ok, Err}
use Rattle.std.specs.Fmt.{decimal}
use Rattle.pipes.specs.declared.answers.Answer.{Answer}
use Rattle.pipes.specs.declared.pipes.Standing.{Standing}
use Rattle.pipes.specs.declared.pipes.Standing.TheVariants.{InStep, Doubtful, Halted}
use Rattle.port.specs.Toggles.{bit}
use Rattle.service.specs.declared.calls.Call.{Call}
use Rattle.service.specs.declared.calls.Call.TheVariants as call
use Rattle.service.specs.Asks.{Reply, answers, brings, shows, replied, reply_number}
use Rattle.scripts.specs.declared.saying.Part.{Part}
use Rattle.scripts.specs.declared.saying.Part.TheVariants.{Endpoint, Packet, Fates}
use Rattle.scripts.specs.declared.saying.Said.{Said}
use Rattle.scripts.specs.declared.saying.Said.TheVariants.{Nothing, Added, Refused, Put, Got, Exchanged, Called, Shown}
use Rattle.scripts.specs.declared.saying.Verb.{Verb}
use Rattle.scripts.specs.declared.saying.Verb.TheVariants.{Open, Send, Fetch, Recover, Look, Close}
use Rattle.scripts.specs.Words.{hex_text}

abbrev pub part_word : Part → List ℕ
part_word Endpoint = codes "cell"
part_word Packet = codes "wait"
part_word Fates = codes "fates"

abbrev pub verb_word : Verb → List ℕ
verb_word Open = codes "open"
verb_word Send = codes "send"
verb_word Fetch = codes "fetch"
verb_word Recover = codes "recover"
verb_word Look = codes "look"
verb_word Close = codes "close"

-- which call it is, and of which pipe
abbrev pub verb_of : Call → Verb
verb_of (call.Open n plan) = Open
verb_of (call.Send n m) = Send
verb_of (call.Fetch n b) = Fetch
verb_of (call.Recover n) = Recover
verb_of (call.Look n) = Look
verb_of (call.Close n) = Close

abbrev pub pipe_of : Call → ℕ
pipe_of (call.Open n plan) = n
pipe_of (call.Send n m) = n
pipe_of (call.Fetch n b) = n
pipe_of (call.Recover n) = n
pipe_of (call.Look n) = n
pipe_of (call.Close n) = n

abbrev pub standing_word : Standing → List ℕ
standing_word InStep = codes "in-step"
standing_word Doubtful = codes "doubtful"
standing_word Halted = codes "halted"

-- the launches of a call, and the result code of the last
abbrev pub tries_text : Answer → List ℕ
tries_text a = codes "tries " ++ (decimal a.tries ++ (codes " last " ++ decimal a.last))

-- what is printed behind the number: of a send the bytes that went, of a close nothing
abbrev pub answer_text : Verb → Answer → List ℕ
answer_text Send a = codes " sent " ++ (decimal a.sent ++ (codes " doubtful " ++ (decimal a.doubtful ++ (codes " " ++ tries_text a))))
answer_text Close a = []
answer_text _ a = codes " " ++ tries_text a

abbrev pub rest_text : Verb → Reply → List ℕ
rest_text verb (answers a) = answer_text verb a
rest_text verb (brings a buffer) =
    codes " received " ++ (decimal a.received ++ (codes " doubtful " ++ (decimal a.doubtful ++ (codes " " ++ (tries_text a ++ (codes " buffer " ++ hex_text buffer))))))
rest_text verb (shows (Ok l)) = codes " standing " ++ (standing_word l.standing ++ (codes " toggle " ++ decimal (bit l.toggle)))
rest_text verb (shows (Err why)) = codes " standing none toggle 0"

abbrev pub reply_text : Verb → ℕ → Reply → List ℕ
reply_text verb pipe r =
    verb_word verb ++ (codes " " ++ (decimal pipe ++ (codes ": number " ++ (decimal (reply_number r) ++ (rest_text verb r ++ codes "\n")))))

abbrev pub said_text : Said → List ℕ
said_text Nothing = []
said_text (Added part) = part_word part ++ codes ": number 0\n"
said_text (Refused part) = part_word part ++ (codes ": number " ++ (decimal 18 ++ codes "\n"))
said_text (Put r v) = codes "put " ++ (decimal r ++ (codes ": " ++ (decimal v ++ codes "\n")))
said_text (Got r v) = codes "get " ++ (decimal r ++ (codes ": " ++ (decimal v ++ codes "\n")))
said_text (Exchanged bytes) = codes "frame: " ++ (hex_text bytes.items ++ codes "\n")
said_text (Called verb pipe outcome) = reply_text verb pipe (replied outcome)
said_text (Shown text) = string_bytes text

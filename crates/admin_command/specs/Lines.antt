-- What a line of commands asks for.
use Rattle.std.specs.Prelude.{ℕ, List, Result, Ok, Err}
use Rattle.api_model.specs.Definition.{document, text}
use Rattle.book_rules.specs.declared.events.Command.{Command}
use Rattle.book_rules.specs.declared.events.Command.TheVariants as command
use Rattle.script_records.specs.Definitions.{Taken, taken}
use Rattle.script_records.specs.Records.{record_in}
use Rattle.script_records.specs.declared.records.LineFault.{LineFault}
use Rattle.script_records.specs.declared.records.LineFault.TheVariants.{BadRecord}
use Rattle.script_records.specs.declared.records.Record.{Record}
use Rattle.script_records.specs.declared.records.Record.TheVariants.{PutText, PutDocument, Ask, Post, Call}
use Rattle.admin_command.specs.declared.orders.Order.{Order}

-- a command at its moment, or why the line has none
abbrev pub Asked : Type 0
Asked = Result Order LineFault

abbrev pub ordered : ℕ → Command → Asked
ordered moment asked = Ok (record { moment = moment; command = asked })

-- a definition is put where it is taken
abbrev pub put_by : ℕ → List ℕ → Taken → Asked
put_by moment api (Ok definition) = ordered moment (command.PutApi api definition)
put_by moment api (Err fault) = Err fault

-- a record asks for its command; the calls of a script are none
abbrev pub asked_by : Record → Asked
asked_by (PutText moment api template) = put_by moment api (taken (text template))
asked_by (PutDocument moment api source) = put_by moment api (taken (document source))
asked_by (Ask moment asked) = ordered moment asked
asked_by (Post moment word api stage body) = Err BadRecord
asked_by (Call moment word bytes outcomes) = Err BadRecord

abbrev pub asked_or_not : Result Record LineFault → Asked
asked_or_not (Ok found) = asked_by found
asked_or_not (Err fault) = Err fault

abbrev pub asked_in : List ℕ → Asked
asked_in line = asked_or_not (record_in line)

-- What a command is seen as: the line that it stands for.
use Rattle.std.specs.Prelude.{ℕ, List}
use Rattle.std.specs.Borrow.{Bor}
use Rattle.td_commands.specs.declared.command.Command.{Command}
use Rattle.td_commands.specs.declared.command.Command.TheVariants as command
use Rattle.td_commands.specs.Lines.{Line, nothing, quit, issue, query, query_at, meet, listing, log, vector, table, serve, call, faulty}

abbrev pub meant : Command → Line
meant command.Nothing = nothing
meant command.Quit = quit
meant (command.Issue n text) = issue n text.now
meant (command.Query n text) = query n text.now
meant (command.QueryAt n text clock origin) = query_at n text.now (clock, origin)
meant (command.Meet n m) = meet n m
meant (command.Listing n) = listing n
meant (command.Log n) = log n
meant (command.Vector n) = vector n
meant (command.Table n relvar) = table n relvar.now
meant (command.Serve n address) = serve n address.now
meant (command.Call n address) = call n address.now
meant command.Faulty = faulty

-- what two references point to
abbrev pub both_texts : Bor (List ℕ) × Bor (List ℕ) → List ℕ × List ℕ
both_texts p = (p.0.now, p.1.now)

-- what a reference points to, and a stamp
abbrev pub beside_stamp : Bor (List ℕ) × (ℕ × ℕ) → List ℕ × (ℕ × ℕ)
beside_stamp p = (p.0.now, p.1)

-- a number, and what a reference points to
abbrev pub beside_number : ℕ × Bor (List ℕ) → ℕ × List ℕ
beside_number p = (p.0, p.1.now)

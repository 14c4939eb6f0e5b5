use Rattle.std.proofs.Common.{sym}
use Rattle.td_statement_keys.proofs.Comments.{short-keyed}
use Rattle.td_statement_keys.proofs.search.is_keyed_text.Goals as goal

pub returns-then-text-lt-COMMENT_BYTES : goal.returns-then-text-lt-COMMENT_BYTES
returns-then-text-lt-COMMENT_BYTES c = sym (short-keyed c.args.text.now c.if-text-lt-COMMENT_BYTES.true)

use Rattle.td_typing.proofs.Staying.{stays}
use Rattle.td_typing.proofs.laws.type_stays.Goals as goal

pub returns : goal.returns
returns c = λ early late s w a u k front keep d. stays early late front s w keep d

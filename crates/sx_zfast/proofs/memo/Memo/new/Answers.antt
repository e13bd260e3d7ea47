use Rattle.std.proofs.Common.{refl}
use Rattle.sx_zfast.proofs.MemoLaws.{none_at_first}
use Rattle.sx_zfast.proofs.memo.Memo.new.Goals as goal

pub returns : goal.returns
returns c m x = none_at_first m x _ refl

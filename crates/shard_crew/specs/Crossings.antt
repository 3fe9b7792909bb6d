-- Which types go to other threads, as the bounds of a crew's type parameters say (nothing of the language).
use denote.RattleType.{RattleType}
use denote.Param.Send.{IsSend, IsSync}

-- of a world, a runtime, a gate and a ledger
abbrev pub MayCross : RattleType → RattleType → RattleType → RattleType → Type 0
MayCross N R G L = IsSend N × IsSync N × IsSync R × IsSync G × IsSend L × IsSync L

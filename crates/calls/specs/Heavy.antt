-- One more than the entry may weigh: it stands for every greater weight.
use Rattle.std.specs.Prelude.{ℕ, suc}
use Rattle.model.specs.Limits.{weight_most}

abbrev pub heavy : ℕ
heavy = suc weight_most

-- The report's lines, as the model puts them together, and how many bytes each has at most. Definitions only.
use Rattle.std.specs.Prelude.{ℕ, ◌+◌, ◌*◌, List, ◌++◌}
use Rattle.model.specs.Limits.{ports_most}
use Rattle.model.specs.Text.{bytes}
use Rattle.model.specs.Review.{Phase}
use Rattle.model.specs.Report.{decimal, verdict_text}

abbrev pub port_text : ℕ → Phase → List ℕ
port_text n phase = bytes "port " ++ decimal n ++ verdict_text phase ++ bytes "\n"

abbrev pub counts_text : ℕ → ℕ → List ℕ
counts_text rules list = bytes "rules " ++ decimal rules ++ bytes " list " ++ decimal list ++ bytes "\n"

abbrev pub refusal_text : ℕ → ℕ → List ℕ
refusal_text n p = bytes "refused " ++ decimal n ++ bytes " place " ++ decimal p ++ bytes "\n"

-- 14 + 10 + 8 + 43, 5 + 10 + 75 + 1, 6 + 10 + 6 + 10 + 1 and 8 + 10 + 7 + 10 + 1
abbrev pub verdict_most : ℕ
verdict_most = 75

abbrev pub line_most : ℕ
line_most = 91

abbrev pub counts_most : ℕ
counts_most = 33

abbrev pub refusal_most : ℕ
refusal_most = 36

-- the counts and all ports: longer than a refusal
abbrev pub body_most : ℕ
body_most = counts_most + ports_most * line_most

abbrev pub header_bytes : ℕ
header_bytes = 15

-- room for the header and that
abbrev pub buffer_bytes : ℕ
buffer_bytes = header_bytes + body_most

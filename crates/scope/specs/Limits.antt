-- Document 01, "Numbers": the limits, each once (N.1). Numbers beside a definition are sentences of docs/MAP.md.
use Rattle.std.specs.Prelude.{ℕ}

-- N.2: a, b, c of a plane, in size
abbrev pub most_abc : ℕ
most_abc = 1000

-- N.3: d of a plane, in size
abbrev pub most_d : ℕ
most_d = 100000000

-- N.4: the work box, in millimetres from 0 on each axis
abbrev pub reach : ℕ
reach = 30000

-- N.5: planes and nodes of a solid
abbrev pub most_planes : ℕ
most_planes = 64

abbrev pub most_nodes : ℕ
most_nodes = 1000

-- N.6: half-spaces of a section
abbrev pub most_halves : ℕ
most_halves = 128

-- N.7: bytes of a text
abbrev pub most_text : ℕ
most_text = 32768

-- N.8: entries of the length stated for a work table
abbrev pub most_work : ℕ
most_work = 100000

-- R.11: that length, one constant whatever the input
abbrev pub stated : ℕ
stated = 4096

-- N.9: a point given to a call: x, y, z in size, and w
abbrev pub most_xyz : ℕ
most_xyz = 1000000000000000

abbrev pub most_w : ℕ
most_w = 10000000000

-- X.12: plane rows and node rows that programs lend for a result
abbrev pub program_planes : ℕ
program_planes = 128

abbrev pub program_nodes : ℕ
program_nodes = 1000

-- What an iterator over a rising row still gives.
use Rattle.std.specs.Prelude.{List, ℕ}
use Rattle.places.specs.declared.rising.Rising.{Rising}
use Rattle.places.specs.Needles.{front_part}

-- the front part of what is left, above the numbers given
abbrev pub rising_rest : Rising → List ℕ
rising_rest s = front_part s.low s.rest.now

-- What a link counts of what it keeps.
use Rattle.std.specs.Prelude.{◌+◌, ◌-◌, ◌*◌, ◌||◌, ℕ, Bool, List, [], cond, leb, length, max, min, not, refl}
use Rattle.std.specs.Coded.{Coded, code_by, coded×, coded_ℕ}
use Rattle.ws_core.specs.declared.link.Received.{Received}
use Rattle.ws_core.specs.declared.link.Received.TheVariants.{Bytes, Skipped, Nothing, Failed, Closed}

-- How many bytes of messages were put in since nothing waited to be sent; how many bytes the stream had given when the last message was whole;
-- and the most that were read of a message before it was whole.
pub record HoldingValue : Type 0 where
  pub unsent : ℕ
  pub whole : ℕ
  pub most_read : ℕ

abbrev pub holding_code : Coded HoldingValue
holding_code =
    code_by (ℕ × (ℕ × ℕ)) (coded× coded_ℕ (coded× coded_ℕ coded_ℕ))
    (λ h. (h.unsent, (h.whole, h.most_read))) (λ p. record { unsent = p.0; whole = p.1.0; most_read = p.1.1 }) (λ _. refl)

-- nothing was put in or read
abbrev pub nothing_held : HoldingValue
nothing_held = record { unsent = 0; whole = 0; most_read = 0 }

-- The stream has taken all that waited, unless it is held up.
abbrev pub settled : Bool → HoldingValue → HoldingValue
settled held_up h = record h { unsent = cond held_up h.unsent 0 }

-- A message of so many bytes was put in. No more than 1,048,576 bytes may wait. From 65,536 on they were offered to the stream.
abbrev pub with_put : ℕ → Bool → HoldingValue → HoldingValue
with_put bytes held_up h =
    let waiting : ℕ = min (h.unsent + bytes) 1048576 in
    settled (not (leb 65536 waiting) || held_up) (record h { unsent = waiting })

-- The most that was read of a message, once the stream has given so many bytes: a message and one read of the stream at most.
abbrev pub most_read_by : ℕ → HoldingValue → ℕ
most_read_by given h = min (max h.most_read (given - h.whole)) 135168

-- how many bytes the stream had given when the last message was whole, if it has given so many: a ping or a pong of 131 bytes at most is none
abbrev pub whole_after : ℕ → Received → ℕ → ℕ
whole_after given (Bytes v) whole = given
whole_after given Skipped whole = min (whole + 131) given
whole_after given Nothing whole = whole
whole_after given Failed whole = whole
whole_after given Closed whole = whole

-- a read came to this, and by then the stream had given so many bytes
abbrev pub with_read : ℕ → Received → HoldingValue → HoldingValue
with_read given got h = record h { whole = whole_after given got h.whole; most_read = most_read_by given h }

-- How many bytes are counted, once the stream has given so many: those that wait to be sent, and twice the most that was read of a message, for
-- which the socket keeps room.
abbrev pub held_by : ℕ → HoldingValue → ℕ
held_by given h = h.unsent + 2 * most_read_by given h

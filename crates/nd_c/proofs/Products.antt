-- A product of fewer is less, and a part is no more than the whole.
use Rattle.std.proofs.Common.{ℕ, ◌≤◌, ◌*◌, ◌/◌}
use Rattle.std.proofs.Math.Nat.{mul-le-mul_right, div-le_self}

pub few : {count most : ℕ} (bytes : ℕ) → count ≤ most → count * bytes ≤ most * bytes
few bytes within = mul-le-mul_right bytes within

pub part : (whole parts : ℕ) → whole / parts ≤ whole
part whole parts = div-le_self whole parts

-- One fact exactly where another holds.
pub record Exactly (P Q : Type 0) : Type 0 where
  pub only : P → Q
  pub always : Q → P

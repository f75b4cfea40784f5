-- what public clauses cite
pub mod History
-- the rule of a history's table
pub mod Rule

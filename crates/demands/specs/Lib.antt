-- The three demands of the minutes, each as one statement.
pub mod Demands

pub mod After
pub mod Beside
pub mod CountLines
pub mod Counting
pub mod Growing
pub mod LineKinds
pub mod Struck
pub mod Unlike

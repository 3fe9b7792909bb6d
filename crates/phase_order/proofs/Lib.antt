mod Ordered
